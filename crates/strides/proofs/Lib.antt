pub mod Missing
pub mod Passing
pub mod Putting
