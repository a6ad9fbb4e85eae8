-- The laws behind the proofs of `registry_c`.
pub mod CodeLaws
