pub mod Clients
pub mod ItsNodes
pub mod OwnAddress
pub mod Settled
