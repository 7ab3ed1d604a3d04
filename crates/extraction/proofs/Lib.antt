pub mod Taking
pub mod Handing
pub mod Ends
pub mod Handed
pub mod Quarters
pub mod Answers
