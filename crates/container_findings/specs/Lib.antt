-- What the contracts of `container_findings` cite.
pub mod Rows
pub mod Passes
pub mod Views
