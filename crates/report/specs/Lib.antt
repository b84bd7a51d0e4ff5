pub mod Lines
pub mod Totals
