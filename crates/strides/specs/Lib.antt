pub mod Strides
pub mod Copies
