-- The laws of the policies whose set has a container, for `holders` and its callers.
pub mod HoldingLaws
