pub mod Paths
pub mod Turns
pub mod Steady
pub mod Worn
pub mod Fits
