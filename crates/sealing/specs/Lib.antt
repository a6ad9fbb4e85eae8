-- What the contracts of functions that make a block cite.
pub mod Sealing
