pub mod Control
pub mod Halves
