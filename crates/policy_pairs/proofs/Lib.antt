-- The laws of two policies compared, for the proofs here and for callers'.
pub mod Connections
pub mod PolicyReading
pub mod SetTests
pub mod CodeTests
pub mod ComparisonLaws
pub mod SharedContainers
