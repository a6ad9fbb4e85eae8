-- What the contracts of `finding_lines` cite.
pub mod Codes
pub mod Ends
pub mod Fronts
