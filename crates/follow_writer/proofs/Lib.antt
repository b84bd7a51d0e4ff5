mod Words
pub mod KeepsPackets
pub mod ClientFates
pub mod OfClients
pub mod RelayFates
pub mod OfRelays
pub mod EntryKinds
pub mod LatestOne
pub mod Doings
pub mod ToldOf
pub mod SaidLines
pub mod Hears
