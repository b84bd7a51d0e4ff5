-- The laws of this crate, each under the name of its call: crates above cite them from here.
pub use Rattle.theory_ways.proofs.chains.Chained.{flat_is_chained, asked_is_chained}
pub use Rattle.theory_ways.proofs.chains.Climbs.{enters_by_its_way}
pub use Rattle.theory_ways.proofs.Addresses.{addresses_differ}
pub use Rattle.theory_ways.proofs.inwards.Enters.{is_let_in}
pub use Rattle.theory_ways.proofs.Neighbours.{neighbours_are_unheard}
pub use Rattle.theory_ways.proofs.Settled.{settled_behind_one, settled_is_along}
pub use Rattle.theory_ways.proofs.phases.WithoutCone.{each_verdict_is_right_along as verdicts_are_right_along, each_address_stays as addresses_stay_along}
pub use Rattle.theory_ways.proofs.inwards.Replies.{each_reply_is_let_in as replies_are_let_in}
pub use Rattle.theory_ways.proofs.Throughout.{histories as histories_hold_along_ways}
