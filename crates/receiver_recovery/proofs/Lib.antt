pub mod Deadline
pub mod Recovery
pub mod ZeroLines
pub mod IdleLines
pub mod Multiplexed
pub mod Near
