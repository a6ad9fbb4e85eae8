-- The laws of a batch.
pub mod Blocks
pub mod CameLaws
pub mod BatchLaws
