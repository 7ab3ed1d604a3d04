pub mod Lanes
pub mod Quarters
