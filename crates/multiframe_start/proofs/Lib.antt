pub mod Starting
pub mod Answers
