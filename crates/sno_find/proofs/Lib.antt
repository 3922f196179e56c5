pub mod Added
pub mod Sorted
pub mod Within
pub mod Rising
pub mod PassedLines
pub mod Walk
pub mod LastLine
pub mod Variables
pub mod Joined
pub mod OneRising
pub mod EditRows
mod Causes
