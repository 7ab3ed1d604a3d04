pub mod Verdicts
pub mod Shown
