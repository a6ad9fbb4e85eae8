-- The laws of rebuild and audit.
pub mod UpkeepLaws
