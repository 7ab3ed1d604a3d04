pub mod Acted
pub mod Readings
pub mod Fitting
pub mod Verdicts
pub mod Steady
pub mod Beginnings
pub mod Shown
pub mod Late
