-- The theorems on blocks, and the laws that the proofs of the readers cite.
pub mod Faults
pub mod Checks
pub mod Weights
pub mod Checksum
pub mod LabelLists
pub mod Accepted
pub mod Sealed
pub mod Written
pub mod Cut
pub mod Limits
pub mod Positions
