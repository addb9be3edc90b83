pub mod Laws
pub mod Submitted
pub mod Draining
pub mod Check
pub mod Kept
