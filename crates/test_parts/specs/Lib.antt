pub mod Parts
pub mod Calls
