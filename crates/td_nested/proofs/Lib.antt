pub mod Flat
pub mod LawProofs
