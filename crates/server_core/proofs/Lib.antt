mod Words
pub mod Peers
pub mod Silence
pub mod Lengths
pub mod Worked
pub mod RowFates
pub mod Outcomes
pub mod ReadsBack
pub mod Warranted
pub mod Outgoing
pub mod AmongServers
pub mod LawProofs
