pub mod Placing
pub mod WordColumns
pub mod Sending
