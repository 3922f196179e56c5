pub mod FolderLemmas
mod ListLemmas
pub mod EndLemmas
mod PlaceLemmas
pub mod NameLemmas
