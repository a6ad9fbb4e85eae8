-- What a clause knows of the bytes that are handed on, and of calls made again.
pub mod Bytes
pub mod Calls
