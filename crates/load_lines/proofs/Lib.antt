mod Words
pub mod Counted
