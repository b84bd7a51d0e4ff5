pub mod Asked
pub mod LiveTurns
pub mod LiveTotals
pub mod Verdict
pub mod Half
pub mod Session
pub mod Numbers
