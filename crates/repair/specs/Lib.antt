pub mod Repair
pub mod Mending
