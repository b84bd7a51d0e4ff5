pub mod Earlier
pub mod ItsNodes
pub mod OwnAddress
pub mod LawProofs
