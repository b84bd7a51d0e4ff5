mod Words
pub mod Added
pub mod Joined
pub mod LateByLate
mod MarkByMark
pub mod Printed
pub mod VerbLengths
