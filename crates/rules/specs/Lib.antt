-- What the contracts of `rules` cite.
pub mod Lets
pub mod Policies
