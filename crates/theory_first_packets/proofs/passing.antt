-- How datagrams pass the NATs of a way, and whom they reach.
pub mod Ways
pub mod WaysIn
pub mod OnWay
pub mod Inward
pub mod Sent
pub mod Addresses
pub mod Ends
pub mod Reaching
pub mod Sides
pub mod OwnAddress
pub mod Arrivals
pub mod AllSent
pub mod Elsewhere
