-- The laws of writing into a lent buffer.
pub mod BufferLaws
