-- The answers of the list, on the model and on memory.
pub mod Listed
