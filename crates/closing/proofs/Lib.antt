-- Laws of `closing`.
mod ListingLaws
