pub mod Octet
pub mod Halves
pub mod Unanswered
