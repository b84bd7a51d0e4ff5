pub mod Words
pub mod Lines
pub mod Faults
pub mod Explained
pub mod Shown
pub mod Numbers
