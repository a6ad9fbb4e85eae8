-- Laws of `policy_sets`.
pub mod SettledPolicy
