-- What the contracts of functions that write into a lent buffer cite.
pub mod Buffer
