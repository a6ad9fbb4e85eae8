-- What the contracts of `selecting` cite.
pub mod Selecting
