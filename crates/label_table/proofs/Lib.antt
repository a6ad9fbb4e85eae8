-- The laws of the table, and of the label rows that `label_marks` fills and `label_rows` reads.
pub mod TableLaws
pub mod RowLaws
