mod Words
pub mod Whole
pub mod Lists
pub mod Touches
pub mod Keeping
pub mod Known
pub mod Numbers
pub mod Asked
pub mod Said
pub mod Loops
pub mod Steps
pub mod Wires
pub mod Stands
pub mod Nodes
pub mod Waits
