-- What the contracts of `findings` cite.
pub mod Steps
pub mod RowSteps
