pub mod Validity
pub mod Runs
pub mod Hunts
pub mod Answers
pub mod Carries
pub mod Nothing
