-- What nodes do with what comes to them, by their tables.
pub mod PassedLines
pub mod Forwarded
pub mod Received
pub mod GivenPacket
pub mod Known
pub mod Lists
pub mod AtServer
pub mod IndirectBubble
pub mod Meeting
pub mod HostPacket
pub mod AtClients
pub mod Unheard
