mod Decided
mod Fitting
mod EventRules
mod Names
mod Stream
mod Honest
pub mod LawProofs
