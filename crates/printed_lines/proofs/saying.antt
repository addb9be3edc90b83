pub mod Tells
pub mod Lines
