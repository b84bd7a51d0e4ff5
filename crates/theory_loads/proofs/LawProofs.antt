-- The laws of this crate, each under the name of its call: crates above cite them from here.
pub use Rattle.theory_loads.proofs.Throughout.{each_carries_its_packet as carries_packets}
pub use Rattle.theory_loads.proofs.Arrived.{each_arrival_is_handed as arrivals_are_handed}
