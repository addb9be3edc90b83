pub mod Times
pub mod Heeding
