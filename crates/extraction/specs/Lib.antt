pub mod Quarters
pub mod Handing
pub mod Extract
