pub mod Cases
pub mod Example
