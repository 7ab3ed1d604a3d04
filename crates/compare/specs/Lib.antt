pub mod Compare
pub mod Lines
pub mod Summing
