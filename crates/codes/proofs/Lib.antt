-- The answer that a number says, and that each step's answer is said by its own.
pub mod Few
pub mod Numbers
pub mod Decoded
pub mod Steps
pub mod Apart
