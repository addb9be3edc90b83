pub mod Laws
pub mod Look
