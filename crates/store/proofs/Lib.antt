-- The laws of a memory's words and bits.
pub mod Cases
pub mod Stores
pub mod Bits
pub mod Carried
pub mod Columns
pub mod Image
