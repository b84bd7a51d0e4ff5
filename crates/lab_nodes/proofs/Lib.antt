mod Words
mod Streams
mod Rows
mod NodeLists
mod Served
mod Dues
mod Quiet
mod NodesFrom
mod PeerSums
mod DueMoments
mod Waiting
mod Arrivals
mod Calls
mod Leaving
mod Unsent
mod Lengths
pub mod LawProofs
