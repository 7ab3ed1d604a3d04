pub mod Eights
pub mod Puts
pub mod Filling
pub mod Accepted
pub mod Answers
