-- What the contracts of `row_listing` cite.
pub mod Listing
