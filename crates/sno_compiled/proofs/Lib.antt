mod Heap
mod Loans
pub mod Crossings
pub mod GatheredLaws
pub mod Values
