-- Of a client, a native host and the host's relay, both ways.
pub mod Relays
pub mod Trusts
pub mod Hosts
pub mod Requests
pub mod AtRelay
pub mod RelaySends
pub mod RelayReceives
pub mod RelaysReached
pub mod OfHosts
pub mod RelayWaits
