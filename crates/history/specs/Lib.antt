pub mod Full
pub mod Records
pub mod Telling
pub mod Numbers
