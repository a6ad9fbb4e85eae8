-- The list of calls and the answers that document 01 gives them.
pub mod Listed
