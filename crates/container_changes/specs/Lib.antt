-- What the contracts of `container_changes` cite.
pub mod OneContainer
