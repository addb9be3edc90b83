pub mod Standing
pub mod Frames
