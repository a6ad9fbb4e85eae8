-- The laws behind the proofs of `text`.
pub mod LineLaws
