-- The laws behind the proofs of `joins`.
pub mod JoinLaws
