pub mod Lanes
pub mod Four
pub mod Runs
