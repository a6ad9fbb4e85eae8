-- The laws behind the proofs of `arrivals`.
mod Masks
mod Lines
mod Rows
mod Came
