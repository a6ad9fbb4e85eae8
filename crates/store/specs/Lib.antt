-- The layout, what a memory holds, and the memory after each write.
pub mod Layout
pub mod Contents
pub mod Memory
