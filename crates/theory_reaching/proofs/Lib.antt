mod Words
mod Tests
mod WordTests
mod entries
mod Lines
mod Pairs
mod no_address
mod clients
mod schedules
mod strays
mod from_native
mod relays
mod to_native
mod NextPacket
mod waiting
mod past_waiting
mod EachWord
pub mod LawProofs
