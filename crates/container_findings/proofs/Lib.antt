-- Laws of `container_findings`.
pub mod Standing
pub mod KindRows
pub mod Gathered
mod Narrowing
mod Columns
mod ContainerWords
mod ContainerRows
mod SlotLaws
mod FirstRows
mod UserLaws
