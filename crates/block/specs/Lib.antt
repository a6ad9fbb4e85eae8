-- The format of blocks, in document 01's order.
pub mod Entry
pub mod Bytes
pub mod Checksum
pub mod Fault
pub mod Refusal
pub mod Reader
pub mod Positions
pub mod Written
pub mod Cut
pub mod Reading
