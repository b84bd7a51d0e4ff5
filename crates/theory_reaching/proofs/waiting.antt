-- What waits at clients and relays.
pub mod TrustedIsIdle
pub mod KeptBack
pub mod OverEvents
pub mod LeastDue
pub mod WaitingBarred
pub mod RelayAdds
pub mod ClientAdds
pub mod RelayKeepsOnly
pub mod RelayFrees
