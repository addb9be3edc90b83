pub mod Listing
pub mod Line
