mod Words
mod Arrivals
mod Lengths
mod Numbers
mod NativeSends
pub mod MadeReplies
pub mod LawProofs
