pub mod Ready
pub mod Sited
pub mod Telling
