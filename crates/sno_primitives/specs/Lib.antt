pub mod Depth
pub mod Leaves
pub mod Mates
pub mod MateTables
pub mod Rows
pub mod Runs
pub mod RunTables
pub mod Walks
