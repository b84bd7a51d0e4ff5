mod Words
pub mod Attempts
pub mod Turns
pub mod Lessened
