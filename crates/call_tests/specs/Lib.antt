-- What the contracts of `call_tests` cite.
pub mod Tests
