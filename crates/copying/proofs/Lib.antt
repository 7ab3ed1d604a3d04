pub mod Carried
pub mod Answers
