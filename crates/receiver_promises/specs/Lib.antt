pub mod History
pub mod Line
pub mod Calls
pub mod Stretches
