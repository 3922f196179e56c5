pub mod BalancedEnds
pub mod Lanes
pub mod MateLaws
pub mod RunLaws
pub mod Seeking
