mod Words
pub mod ReadLemmas
pub mod PacketLaws
pub mod Worked
pub mod SeenLaws
pub mod LawProofs
