pub mod Loads
pub mod Writing
pub mod Turned
