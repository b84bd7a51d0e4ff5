-- The laws of this crate, each under the name of its call: crates above cite them from here.
pub use Rattle.native_host.proofs.NativeSends.{each_is_own_packet, each_is_reply}
pub use Rattle.native_host.proofs.MadeReplies.{each_reply_is_made}
