pub mod Granted
pub mod One
pub mod Steps
