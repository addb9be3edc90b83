pub mod Closing
pub mod Ending
