pub mod Callers
pub mod Handover
pub mod Numbers
