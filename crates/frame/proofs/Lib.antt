pub mod Sum
pub mod Lengths
pub mod Results
