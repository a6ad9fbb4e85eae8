-- What the contracts of `batches` cite.
pub mod Progress
