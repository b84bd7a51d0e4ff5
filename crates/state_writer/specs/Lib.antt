pub mod StateAccount
pub mod Writes
pub mod KnownFacts
