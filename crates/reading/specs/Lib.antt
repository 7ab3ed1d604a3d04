pub mod Notes
pub mod Lanes
pub mod Reading
