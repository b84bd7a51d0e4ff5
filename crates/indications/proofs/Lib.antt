mod Words
pub mod HeadLaws
pub mod FoundLaws
pub mod LeadLaws
pub mod FaultLaws
pub mod Worked
pub mod LawProofs
