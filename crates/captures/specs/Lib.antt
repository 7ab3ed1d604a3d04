pub mod Captures
pub mod Trips
pub mod Faults
