pub mod Answers
pub mod Bench
pub mod Late
pub mod Delaying
