-- What the contracts of `matrix_resets` cite.
pub mod Resets
