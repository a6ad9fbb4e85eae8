-- The laws of open.
pub mod OpenLaws
