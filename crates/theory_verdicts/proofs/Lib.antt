mod Words
pub mod Members
pub mod Kept
pub mod NatPorts
mod Views
mod Opened
pub mod Adverts
pub mod Phases
mod Sound
pub mod SoundAdverts
pub mod Entries
pub mod Outs
pub mod LetIn
mod Scenes
mod Steps
pub mod Journals
mod Begins
mod Stays
mod Judged
mod Undisturbed
mod KeptOpen
mod Throughout
pub mod LawProofs
