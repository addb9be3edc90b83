pub mod Access
pub mod Format
pub mod Reading
