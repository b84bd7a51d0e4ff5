mod Words
pub mod Counts
pub mod NameLemmas
pub mod Numbering
pub mod Lists
pub mod AtNodes
pub mod DistinctNames
pub mod LawProofs
