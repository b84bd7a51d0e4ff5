-- The laws of this crate, each under the name of its call: crates above cite them from here.
pub use Rattle.theory_ends.proofs.Stays.{lost_stays_lost}
pub use Rattle.theory_ends.proofs.First.{arrived_is_first, others_never_arrive}
pub use Rattle.theory_ends.proofs.Last.{lost_is_last}
