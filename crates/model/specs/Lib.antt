-- The meaning of the register, in document 01's order.
pub mod Table
pub mod Lowest
pub mod Rules
pub mod Model
pub mod Findings
pub mod Kinds
pub mod Calls
pub mod Batch
pub mod File
pub mod ModelStep
pub mod Registry
pub mod Settled
pub mod Refusals
pub mod RegistryStep
pub mod OnePass
pub mod Itself
