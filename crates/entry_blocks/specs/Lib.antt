-- What the contracts of `entry_blocks` cite.
pub mod Labels
pub mod Sizes
