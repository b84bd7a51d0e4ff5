pub mod Tells
pub mod Answered
pub mod Taken
pub mod Heard
pub mod AtOnce
pub mod Asks
pub mod Questions
pub mod Throughout
