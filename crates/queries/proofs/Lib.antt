-- The laws of the queries.
pub mod QueryLaws
