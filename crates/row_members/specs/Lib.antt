-- What the contracts of `row_members` cite.
pub mod Steps
