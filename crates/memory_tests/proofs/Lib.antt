-- The other laws behind the proofs of `memory_tests` stand in `formed`.
mod Turns
