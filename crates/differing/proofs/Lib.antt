pub mod Listing
pub mod Walking
pub mod SumsByKind
pub mod Picked
pub mod Lists
pub mod AllListed
