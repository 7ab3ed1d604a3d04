pub mod History
pub mod Line
pub mod Round
