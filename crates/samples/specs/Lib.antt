-- What the contracts of `samples` cite.
pub mod Samples
