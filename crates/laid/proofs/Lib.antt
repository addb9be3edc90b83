pub mod Laws
pub mod Octets
