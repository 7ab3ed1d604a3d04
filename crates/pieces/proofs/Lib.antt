pub mod Holding
pub mod Counts
pub mod Turns
