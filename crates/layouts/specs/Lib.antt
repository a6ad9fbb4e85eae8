-- What the contracts of `layouts` cite.
pub mod Steps
