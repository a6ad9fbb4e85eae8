-- The laws of the walks.
pub mod WalkLaws
