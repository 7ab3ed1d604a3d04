pub mod Record
pub mod Rule
