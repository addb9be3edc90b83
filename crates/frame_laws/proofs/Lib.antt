pub mod Cases
pub mod Body
pub mod Framed
pub mod Accepted
pub mod Flips
pub mod Table
pub mod Theorems
pub mod Held
