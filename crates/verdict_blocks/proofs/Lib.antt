pub mod FirstRight
pub mod Carried
pub mod AllRight
pub mod Sizes
pub mod Kept
pub mod Waying
pub mod Several
pub mod Parts
