-- What the contracts of `listing_lines` cite.
pub mod GoesOn
pub mod RowsIn
