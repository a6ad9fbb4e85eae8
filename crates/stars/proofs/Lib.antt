-- The starred instances hold.
pub mod Stars
