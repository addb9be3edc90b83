pub mod Walk
pub mod Last
