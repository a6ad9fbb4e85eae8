-- The laws of layouts.
pub mod Layouts
