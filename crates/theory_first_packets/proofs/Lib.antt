mod Words
pub mod tables
pub mod passing
pub mod schedule
pub mod Deliveries
pub mod Journals
pub mod HandedIn
mod Premise
mod Strangers
mod Flat
mod Throughout
mod Dropped
pub mod LawProofs
