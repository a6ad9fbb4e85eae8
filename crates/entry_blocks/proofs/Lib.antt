-- The laws of the blocks of settings and entries.
pub mod BlockLaws
pub mod FormedParts
