pub mod Readings
pub mod Wrong
pub mod Verdict
pub mod Counting
