pub mod One
pub mod Walk
pub mod Numbers
pub mod Past
