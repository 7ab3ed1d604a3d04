pub mod Multiframe
pub mod Calls
pub mod Steps
pub mod Trips
