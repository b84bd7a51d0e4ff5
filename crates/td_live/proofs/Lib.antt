mod Words
pub mod Attempts
pub mod Entries
pub mod Unlisted
pub mod Turned
pub mod Ran
pub mod Sessions
