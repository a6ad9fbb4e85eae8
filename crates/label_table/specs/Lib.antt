-- The table of labels, and the rows of the containers that carry each: what the contracts here and in the crates above cite.
pub mod LabelTable
pub mod Rows
pub mod LabelRows
