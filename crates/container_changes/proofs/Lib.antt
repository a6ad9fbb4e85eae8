-- The laws behind the proofs of `container_changes`.
pub mod ContainerLaws
