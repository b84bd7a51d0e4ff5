-- The laws of this crate, each under the name of its call: crates above cite them from here.
pub use Rattle.client_rules.proofs.Fates.{fate_of_reception, fate_of_transmission, tries_touch}
pub use Rattle.client_rules.proofs.Received.{reception_is_warranted}
pub use Rattle.client_rules.proofs.Given.{transmission_is_warranted}
pub use Rattle.client_rules.proofs.Ticked.{tick_is_warranted}
pub use Rattle.client_rules.proofs.Tried.{next_mentions, journal_is_tried}
pub use Rattle.client_rules.proofs.TakenPlaces.{wants_only_qualified}
pub use Rattle.client_rules.proofs.Addressed.{qualified_has_address, qualified_stays, queued_is_own, none_is_queued as none_queued, waiting_is_own, waiting_was_handed_in}
pub use Rattle.client_rules.proofs.Trusts.{trusted_is_embedded}
pub use Rattle.client_rules.proofs.Rooms.{journal_has_few}
pub use Rattle.client_rules.proofs.Sends.{each_send}
pub use Rattle.client_rules.proofs.Handed.{each_handed}
pub use Rattle.client_rules.proofs.Late.{each_late}
pub use Rattle.client_rules.proofs.LateSources.{each_late_is_foreign}
pub use Rattle.client_rules.proofs.MadeWaiting.{each_standing_is_made}
pub use Rattle.client_rules.proofs.MadeSends.{each_send_is_bytes}
pub use Rattle.client_rules.proofs.ShortSends.{each_send_is_short}
pub use Rattle.client_rules.proofs.Told.{each_address_is_told}
pub use Rattle.client_rules.proofs.Destinations.{each_send_goes_to_endpoint}
