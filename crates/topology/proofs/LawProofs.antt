-- The laws of this crate, each under the name of its call: crates above cite them from here.
pub use Rattle.topology.proofs.AtNodes.{apart, taken, each_node}
