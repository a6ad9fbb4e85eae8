-- What the contracts of `entries` cite.
pub mod Entries
pub mod Tables
