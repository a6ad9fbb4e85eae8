-- The laws of a part that is carried over.
mod PartWords
