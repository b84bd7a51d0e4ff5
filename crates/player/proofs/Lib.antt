mod Words
mod Played
mod Turns
mod NothingWritten
mod HeardTurns
mod Endings
mod SmallSums
mod CaptureText
mod EntryRecords
pub mod LawProofs
