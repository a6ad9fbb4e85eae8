-- What the contracts of the calls cite of their answers.
pub mod Answers
pub mod Admission
