pub mod Columns
pub mod Sending
