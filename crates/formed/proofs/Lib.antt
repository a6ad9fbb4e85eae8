-- The laws of what a memory says, for the proofs here and for callers'.
pub mod Tests
pub mod Parts
pub mod Slots
pub mod StoredLaws
pub mod Back
pub mod Acceptable
pub mod Formed
pub mod Reading
pub mod Placed
pub mod Apart
pub mod Runs
pub mod Listed
pub mod Standing
pub mod Rows
pub mod EntryTests
pub mod TestsFormed
pub mod Fits
