-- The number that each answer is over the C interface, and that it tells the answers apart.
pub mod Codes
pub mod Apart
