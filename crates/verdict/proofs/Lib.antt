pub mod Telling
pub mod Numbers
pub mod Answers
pub mod Betters
pub mod Fed
pub mod Unrefused
