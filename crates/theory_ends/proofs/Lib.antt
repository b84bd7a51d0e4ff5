mod Words
mod Kept
mod Carried
mod Handed
mod Moments
mod Other
mod AtEnd
mod Lost
mod Stays
mod First
mod Last
pub mod LawProofs
