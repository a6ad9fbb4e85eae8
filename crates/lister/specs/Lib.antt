-- What each part of the pump promises: the steps that it takes, and that it writes their text.
pub mod Steps
