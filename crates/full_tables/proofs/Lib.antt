mod Words
mod ListEnds
mod ManyPeers
mod PeerAddresses
mod OnePacket
mod LostSends
mod Filler
mod Filling
mod TwoClients
mod TwoClientsRules
mod BothSettled
mod ManyListed
mod SenderFull
mod TwoBubbles
mod ThroughServer
mod ReceiverFull
mod WithRoom
pub mod LawProofs
