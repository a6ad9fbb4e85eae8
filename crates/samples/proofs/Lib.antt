-- The laws behind the proofs of `samples`.
pub mod SampleLaws
