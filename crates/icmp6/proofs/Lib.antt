mod Words
pub mod SumSteps
pub mod WalkSteps
pub mod Steps
pub mod OptionLaws
pub mod AgainLaws
pub mod FoundLaws
pub mod BlockLaws
pub mod WriteLaws
pub mod Vectors
pub mod FaultLaws
pub mod LawProofs
