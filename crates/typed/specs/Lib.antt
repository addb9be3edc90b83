pub mod Words
pub mod Digits
pub mod Lists
pub mod Places
