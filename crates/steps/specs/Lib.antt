-- The definition that every exported promise cites, and the theorem over it.
pub mod MemoryStep
pub mod NumbersMet
pub mod Refinement
pub mod ReadBack
pub mod Batch
pub mod Positions
