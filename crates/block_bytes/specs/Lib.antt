-- What the contracts of `block_bytes` cite.
pub mod Used
