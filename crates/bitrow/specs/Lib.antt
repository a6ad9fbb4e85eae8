-- What the contracts of bitrow say.
pub mod Set
pub mod Bit
