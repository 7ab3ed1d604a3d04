pub mod Feed
pub mod Numbers
pub mod Hunt
pub mod Carry
pub mod Nothing
