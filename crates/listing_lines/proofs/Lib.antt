-- Laws of `listing_lines`.
mod FirstLines
mod LinesSoFar
