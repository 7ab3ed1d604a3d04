pub mod Differing
pub mod Counting
pub mod Promises
pub mod AllListed
