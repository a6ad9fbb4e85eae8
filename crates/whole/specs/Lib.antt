-- What the contracts of `whole` cite.
pub mod StoredRows
