-- What the contract of `free_slots` cites.
pub mod Entries
