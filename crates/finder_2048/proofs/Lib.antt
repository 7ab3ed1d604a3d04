pub mod Validity
pub mod Hurries
pub mod Runs
pub mod Answers
