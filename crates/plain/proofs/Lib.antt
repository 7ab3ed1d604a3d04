pub mod Places
pub mod Sending
pub mod Votes
pub mod Noting
pub mod Handing
pub mod Answers
