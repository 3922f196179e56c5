pub mod Accepting
pub mod AtVersion
pub mod Excerpts
pub mod Contents
mod NamedMembers
mod Rows
mod Tried
mod PlainLines
