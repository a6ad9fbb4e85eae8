-- The laws behind the proofs of `word_tests`.
mod Rows
