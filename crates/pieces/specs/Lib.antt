pub mod Frame
pub mod Alarm
pub mod Hunt
pub mod Carry
pub mod Turns
