mod Words
pub mod LawProofs
pub mod NamedEntries
pub mod Renamed
