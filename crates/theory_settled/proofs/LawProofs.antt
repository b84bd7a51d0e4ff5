-- The laws of this crate, each under the name of its call: crates above cite them from here.
pub use Rattle.theory_settled.proofs.OwnAddress.{each_address_is_own as address_is_own}
pub use Rattle.theory_settled.proofs.ItsNodes.{clients_are_there as client_is_there}
