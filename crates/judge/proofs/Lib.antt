pub mod Differing
pub mod Counted
pub mod Moved
pub mod Quartered
pub mod Accepted
pub mod Answers
