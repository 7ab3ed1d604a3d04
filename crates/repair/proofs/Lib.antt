pub mod Mending
pub mod Frames
pub mod Answering
pub mod Answers
