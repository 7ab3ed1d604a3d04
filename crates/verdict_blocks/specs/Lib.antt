pub mod Blocks
pub mod Keeping
pub mod Readings
pub mod Going
