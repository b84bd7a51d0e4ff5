-- A packet for a client that keeps packets for the sender.
pub mod KeptPackets
pub mod FromPeer
pub mod Footing
pub mod Refused
pub mod Steps
pub mod Boards
pub mod Moves
pub mod Played
pub mod Begins
