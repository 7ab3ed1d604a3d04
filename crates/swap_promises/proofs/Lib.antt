pub mod Places
pub mod Orders
pub mod NewFour
pub mod NewSend
pub mod Returned
pub mod OwnBit
pub mod Votes
