-- The laws behind the proofs of `files`.
pub mod TableLaws
pub mod FileLaws
