-- The laws of entries read from a memory, for the proofs here and for callers'.
pub mod PartLabels
pub mod Trials
pub mod Keys
pub mod FreeSlots
pub mod FormedEntries
