-- What the contracts of `formed` and of those that change a memory cite.
pub mod Words
pub mod Registry
pub mod Placed
pub mod Tests
