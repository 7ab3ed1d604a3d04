pub mod Frames
pub mod Multiframes
