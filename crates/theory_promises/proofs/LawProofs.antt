-- The laws of this crate, each under the name of its call: crates above cite them from here.
pub use Rattle.theory_promises.proofs.Keeping.{histories as kept, scenarios as kept_in_scenarios}
