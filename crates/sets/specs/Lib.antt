-- What the contracts of `sets` cite.
pub mod Sets
