-- What the contracts of `container_bits` cite.
pub mod ContainerBits
