-- The law of writing.
pub mod WritingLaws
