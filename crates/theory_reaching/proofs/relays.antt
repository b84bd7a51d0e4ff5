-- Of a client, a native host and the host's relay, both ways.
pub mod Relays
pub mod RelayEnds
pub mod RelayMade
pub mod WithinTwo
pub mod NodesApart
