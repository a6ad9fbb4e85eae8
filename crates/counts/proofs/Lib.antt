-- The laws behind the proofs of `counts`.
pub mod CountLaws
