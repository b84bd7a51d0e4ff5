-- The laws of this crate, each under the name of its call: crates above cite them from here.
pub use Rattle.relay_rules.proofs.Fates.{fate_of_reception, fate_of_transmission, tries_touch}
pub use Rattle.relay_rules.proofs.Warranted.{reception_is_warranted, transmission_is_warranted}
pub use Rattle.relay_rules.proofs.Ticked.{tick_is_warranted}
pub use Rattle.relay_rules.proofs.Tried.{journal_is_tried}
pub use Rattle.relay_rules.proofs.Quiet.{cone_is_quiet}
pub use Rattle.relay_rules.proofs.Rooms.{journal_has_few}
pub use Rattle.relay_rules.proofs.Held.{waiting_is_foreign, trusted_is_embedded, holds_nothing}
pub use Rattle.relay_rules.proofs.Sends.{each_send}
pub use Rattle.relay_rules.proofs.ForeignSends.{each_send_is_foreign}
