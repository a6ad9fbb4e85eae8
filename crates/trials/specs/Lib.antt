-- What the contracts of `trials` cite beside what stands in `entries`.
pub mod Words
