-- The other laws behind the proofs of `entry_tests` stand in `formed`.
mod Settings
