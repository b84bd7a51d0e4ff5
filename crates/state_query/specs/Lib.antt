pub mod OwnFacts
pub mod PeerFacts
