-- The laws of rows and columns by the rules.
pub mod Model
pub mod SideLaws
