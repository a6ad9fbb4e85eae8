-- The laws behind the proofs of `numbers`.
pub mod DecimalLaws
