pub mod Noted
pub mod Steps
pub mod Depth
pub mod Promise
pub mod Limits
pub mod Examples
