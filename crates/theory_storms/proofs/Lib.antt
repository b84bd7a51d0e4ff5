mod Words
pub mod Weighed
mod Exchanged
mod Settles
pub mod PeersWait
pub mod Places
mod Freights
mod others
mod Sent
mod NewItems
mod relays
mod EasedWeights
mod Sums
mod Waits
mod clients
mod Reached
mod Eases
mod Ending
mod NineAtMost
mod Most
mod ByKind
mod Alone
mod FewWait
mod LessLeft
pub mod LawProofs
