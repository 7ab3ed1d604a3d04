pub mod Windows
pub mod Eights
pub mod Made
