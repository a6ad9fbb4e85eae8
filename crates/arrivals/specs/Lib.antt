-- What the contracts of `arrivals` cite.
pub mod Anew
