-- The laws of bits, sets and rows, for the proofs here and for callers'.
pub mod Sets
pub mod Tests
pub mod Sizes
pub mod Searches
pub mod Words
pub mod Rows
pub mod Arrays
mod Examples
