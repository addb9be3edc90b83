pub mod Replay
pub mod Script
pub mod Lent
