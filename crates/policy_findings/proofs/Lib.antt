-- Laws of `policy_findings`.
pub mod PolicyKinds
mod PolicyRows
mod CandidateLaws
