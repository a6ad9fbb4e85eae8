-- What the contracts of `policy_findings` cite.
pub mod PolicyView
pub mod Candidates
