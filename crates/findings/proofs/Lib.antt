-- Laws of `findings`.
pub mod Walk
mod Inside
pub mod NextFinding
mod WholeRow
pub mod ListedSoFar
pub mod PutSoFar
mod RowSearch
pub mod InsideWalk
