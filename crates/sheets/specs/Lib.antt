-- The whole sheet, what each part of a step does, and the theorems on the text of all steps.
pub mod Sheet
pub mod Told
pub mod Blocks
pub mod Left
pub mod Pieces
pub mod Closing
pub mod Step
pub mod Runs
