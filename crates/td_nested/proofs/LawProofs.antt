-- The laws of this crate, each under the name of its call: crates above cite them from here.
pub use Rattle.td_nested.proofs.Flat.{dash_is_flat}
