-- What the contracts of `policy_changes` cite.
pub mod Region
