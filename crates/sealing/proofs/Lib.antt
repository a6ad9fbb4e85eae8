-- The laws behind the proofs of `sealing`, and how its callers join what was put.
pub mod SealingLaws
