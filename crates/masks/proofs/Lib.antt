pub mod Groups
pub mod Differing
pub mod Added
