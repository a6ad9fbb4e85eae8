-- Laws of `row_listing`.
pub mod Members
pub mod Putting
pub mod Sizes
