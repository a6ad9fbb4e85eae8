-- The laws of the tests.
pub mod TestLaws
