pub mod Printed
pub mod Numeral
