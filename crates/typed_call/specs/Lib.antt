pub mod Table
pub mod Pairs
pub mod Script
pub mod Operands
