-- The laws of a block of a batch.
pub mod Outcomes
pub mod Left
pub mod Cursors
