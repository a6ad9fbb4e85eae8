-- What the contracts of `policy_sets` cite.
pub mod PolicySets
