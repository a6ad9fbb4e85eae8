-- The laws behind the proofs of `selecting`.
mod RowLaws
mod TableLaws
