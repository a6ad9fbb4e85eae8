-- Laws of `finding_lines`.
mod EndLaws
mod FrontLaws
pub mod RowLines
