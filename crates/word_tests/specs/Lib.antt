-- What the contracts of `word_tests` cite.
pub mod Joined
