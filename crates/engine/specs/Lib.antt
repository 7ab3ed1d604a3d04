pub mod Engine
pub mod Walk
pub mod Change
