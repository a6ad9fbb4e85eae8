-- The laws behind the proofs of `whole`.
pub mod WholeLaws
