-- The laws behind the proofs of `part_tests`.
pub mod Slices
pub mod Turns
