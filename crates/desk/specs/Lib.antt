pub mod Desk
pub mod Lent
pub mod Scripts
