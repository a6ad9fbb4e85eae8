-- What the contracts of `finding_rows` cite.
pub mod View
pub mod Slots
