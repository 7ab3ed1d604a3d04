pub mod Inside
pub mod Lanes
pub mod Reading
pub mod NoteBits
pub mod Answers
