pub mod Undisturbed
pub mod Right
pub mod Stays
pub mod Throughout
