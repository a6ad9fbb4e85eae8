-- What the contracts of `policy_pairs` cite.
pub mod Comparisons
