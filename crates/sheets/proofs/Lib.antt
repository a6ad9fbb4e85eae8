-- The laws that the proofs of the report's functions cite, and the theorems.
pub mod BlockLaws
pub mod PieceLaws
pub mod StepLaws
pub mod Blocks
pub mod Leads
pub mod Kept
pub mod Due
pub mod Onward
pub mod Ready
pub mod Runs
