pub mod Putting
pub mod Judging
pub mod Walking
pub mod Files
pub mod Answers
pub mod Faults
pub mod Rest
