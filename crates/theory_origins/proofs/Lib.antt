mod Words
pub mod Records
pub mod Inputs
pub mod SentFrom
pub mod SentElsewhere
pub mod HonestFor
pub mod SentOn
pub mod Brought
pub mod Brings
mod Queued
pub mod Carried
pub mod Whence
mod Inwards
pub mod Live
mod Voices
mod BroughtBy
mod NativesSend
mod Unsolicited
mod PassedSource
mod PassedOn
mod ForRelays
mod RelayCarries
mod CameDirect
pub mod FromServers
mod GivenIn
mod Datagrams
mod Bringers
mod FromOutside
mod Throughout
pub mod LawProofs
