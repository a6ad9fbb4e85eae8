-- The starred instances, as one table.
pub mod Stars
