pub mod Orders
pub mod Heads
pub mod Records
pub mod Captures
pub mod Laws
