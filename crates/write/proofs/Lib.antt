pub mod Adding
pub mod Frame
pub mod Answers
pub mod Laying
