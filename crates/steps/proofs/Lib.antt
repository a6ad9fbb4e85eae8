-- The laws of each outcome, and demand 3.
pub mod NumbersMet
pub mod Outcomes
pub mod Refused
pub mod Positions
pub mod Valid
pub mod Refinement
pub mod StaysFormed
pub mod Walk
pub mod Parts
pub mod ReadBack
pub mod Batch
