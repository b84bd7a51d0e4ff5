-- Where the words of this crate's proofs are defined: its files name them from here. `.ci/words` keeps this file.
pub use Rattle.std.proofs.Common.{Bool, Err, IfOk, IsTrue, List, MatchResult, None, Ok, OnErr, OnOk, Option, Result, Some, [], ap, arith, drop, false, is_err, length, map, min, nat_lt, refl, replicate, rules, slice_get, slice_index_or, slice_set, subst, sym, take, true, ℕ, ◌&&◌, ◌++◌, ◌+◌, ◌-◌, ◌<◌, ◌↔◌, ◌∙◌, ◌∷◌, ◌≡◌, ◌≤◌}
pub use Rattle.std.proofs.Math.Seq.{take-append_seam}
pub use Rattle.std.proofs.lemmas.Bool.{and_from, and_parts, ltb-false, ltb-true}
pub use Rattle.std.proofs.lemmas.Grind.{common_steps}
pub use Rattle.std.proofs.lemmas.List.{append-nil, drop-drop, drop_all, drop_at, drop_more, get_or-drop, get_or-map, get_or_at, length-drop, length-map, length-take-le, map-append, map-set, replicate_more, set_at, take-append-drop, take_all, take_at, take_min, take_more}
pub use Rattle.std.proofs.lemmas.Option.{get_or_from_slice_get, slice_get-map, slice_get_read}
pub use Rattle.std.specs.Option.{option_and_then, option_map}
pub use Rattle.td_base.specs.Ip4.{same_ip, same_ip_decides}
pub use Rattle.td_base.specs.declared.datagram.TheConstants.{DATAGRAM_MAX}
pub use Rattle.td_base.specs.declared.endpoint.Ep.{Ep}
pub use Rattle.td_base.specs.declared.ipv4.Ip4.{Ip4}
pub use Rattle.td_base.specs.declared.millis.Millis.{Millis}
pub use Rattle.td_base.specs.declared.side.Side.TheVariants.{Primary}
pub use Rattle.td_outside.specs.Causes.{count_end, raised}
pub use Rattle.td_outside.specs.Link.{Came, Datagram, IsAtItsSide, IsAtPrimary, Nothing, at_primary, came_by, client_on, next_came, open_on}
pub use Rattle.td_outside.specs.MemLink.{IsOnItsSide, came_from}
pub use Rattle.td_outside.specs.TestClock.{after_moment, moment_of, told_given}
pub use Rattle.td_outside.specs.UdpPair.{Pair, client_opened, pair_opened}
pub use Rattle.td_outside.specs.declared.fails.Failed.{Failed}
pub use Rattle.td_outside.specs.declared.link.Addresses.{Addresses}
pub use Rattle.td_outside.specs.declared.link.Arrival.{Arrival}
pub use Rattle.td_outside.specs.declared.link.Arrival.TheVariants.{Got, Idle}
pub use Rattle.td_outside.specs.declared.link.Place.{Place}
pub use Rattle.td_outside.specs.declared.link.Place.TheVariants.{Both, Client}
pub use Rattle.td_outside.specs.declared.mem_arrival.MemArrival.{MemArrival}
