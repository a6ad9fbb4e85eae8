-- What the steps of the readers answer.
pub mod Settings
