mod Words
pub mod Shown
pub mod Sessions
pub mod Audited
pub mod Found
pub mod Explained
mod Telling
