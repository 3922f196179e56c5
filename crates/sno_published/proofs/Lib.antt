pub mod Prefixes
pub mod Adding
pub mod LastEntries
pub mod Replays
pub mod Views
pub mod Taken
