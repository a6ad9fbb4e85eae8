-- Laws of `rules`.
pub mod Unions
mod ToCome
