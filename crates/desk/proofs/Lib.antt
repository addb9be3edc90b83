pub mod Holding
pub mod Running
pub mod Once
