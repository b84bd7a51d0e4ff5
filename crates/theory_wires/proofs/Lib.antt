mod Words
mod CaptureSizes
mod ReadsBack
mod Counting
mod Places
mod ServerReplies
mod ServerAnswers
mod AskedBefore
mod CleanWire
pub mod LawProofs
