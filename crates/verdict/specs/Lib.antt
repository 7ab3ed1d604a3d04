pub mod Feed
pub mod Going
