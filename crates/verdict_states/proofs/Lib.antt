pub mod Good
pub mod Cutting
pub mod Made
pub mod Answers
