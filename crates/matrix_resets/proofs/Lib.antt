-- Laws of `matrix_resets`.
mod RowResets
pub mod Unnamed
