pub mod Files
pub mod TwoLines
pub mod Answers
pub mod LineAnswers
pub mod Growing
