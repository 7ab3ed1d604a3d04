pub mod Swap
pub mod Filling
