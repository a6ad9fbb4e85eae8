-- The laws of rows gathered policy by policy.
pub mod RowLaws
