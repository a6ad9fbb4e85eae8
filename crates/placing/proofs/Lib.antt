-- The laws of what is placed.
mod Fields
mod SlotWords
