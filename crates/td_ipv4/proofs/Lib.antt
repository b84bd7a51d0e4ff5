mod Words
pub mod TestLaws
pub mod FoundLaws
pub mod FaultLaws
pub mod AgainLaws
pub mod SumSteps
pub mod SumLaws
pub mod LawProofs
pub mod Worked
