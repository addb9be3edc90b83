pub mod Started
pub mod Blank
