pub mod Differing
pub mod Least
pub mod Answers
