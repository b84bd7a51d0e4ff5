-- Where a host has no address.
pub mod DroppedAtOnce
pub mod OffAndAway
pub mod OffHost
pub mod Nonceless
pub mod NoncelessClients
pub mod NoncelessOthers
pub mod NoncelessItems
pub mod AwayForAll
