pub mod First
pub mod Tables
pub mod Further
pub mod Nothing
pub mod Worn
pub mod Told
