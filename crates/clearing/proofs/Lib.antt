-- The laws behind the proofs of `clearing`.
pub mod BitLaws
