-- The laws behind the proofs of `intake`.
pub mod BatchLaws
