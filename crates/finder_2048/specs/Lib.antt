pub mod Modes
pub mod Feed
pub mod Hurry
