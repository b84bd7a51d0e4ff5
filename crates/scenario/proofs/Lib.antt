mod Words
mod Steps
mod Names
mod Taken
mod TableLemmas
mod UnknownKeys
mod TextLemmas
mod Lasts
mod Grown
mod FreshRows
mod EventsSoFar
mod KeptRules
pub mod LawProofs
