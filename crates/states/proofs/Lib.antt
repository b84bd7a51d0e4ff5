pub mod LawProofs
mod OnePassing
mod OneMention
mod ClientPeers
mod RelayPeers
mod LatestPeers
pub mod HeldPorts
mod Walks
mod WaysWalked
mod PortsKept
pub mod Sorted
mod LastingNats
mod LastingPeers
