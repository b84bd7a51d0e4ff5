mod Keeping
pub mod LawProofs
