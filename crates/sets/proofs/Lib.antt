-- The laws of candidate sets and of label rows.
pub mod Candidates
