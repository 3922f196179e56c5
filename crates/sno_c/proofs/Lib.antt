mod Crossings
mod FaultLemmas
mod OpenedBooks
mod Values
