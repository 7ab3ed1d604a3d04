pub mod Sums
pub mod Worked
