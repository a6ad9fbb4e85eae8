-- What the contracts of `batch_blocks` cite.
pub mod Blocks
