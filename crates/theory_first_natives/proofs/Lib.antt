mod Words
pub mod tables
pub mod RelayEndpoint
pub mod from_native
pub mod Apart
mod NewToEachOther
pub mod to_native
pub mod Served
mod Throughout
pub mod LawProofs
