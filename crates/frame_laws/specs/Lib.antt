pub mod Terms
pub mod Table
