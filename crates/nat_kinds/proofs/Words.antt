-- Where the words of this crate's proofs are defined: its files name them from here. `.ci/words` keeps this file.
pub use Rattle.std.proofs.Common.{Bool, Err, List, None, Ok, Option, Result, Some, [], ap, arith, cond, drop, eqb, false, filter, find, get_or, length, map, not, refl, rules, subst, suc, sym, take, take_all, true, zero, ℕ, ⊎_elim, ◌&&◌, ◌*◌, ◌++◌, ◌+◌, ◌-◌, ◌<◌, ◌==◌, ◌||◌, ◌∙◌, ◌∷◌, ◌≡◌, ◌≤◌}
pub use Rattle.std.proofs.Math.Bool.{or-true}
pub use Rattle.std.proofs.Math.Nat.{eq-or-lt_of_le, le_refl, le_trans}
pub use Rattle.std.proofs.lemmas.Bool.{and_from, and_parts, cases_lt, cases_order, cond-false, cond-true, eq-eqb, eqb-false, eqb-true, false≢true, le-ltb, lt-ltb, ltb-false, ltb-true, ne_eqb, not-true, or_cases, or_parts}
pub use Rattle.std.proofs.lemmas.List.{length-map, take-append-le}
pub use Rattle.std.proofs.lemmas.List.Elements.{All-contains, All-contains_itself, All-from_recursion, recursion_from_All}
pub use Rattle.std.proofs.lemmas.Map.Keys.{IsDistinct-cons, IsDistinct-from_apart, IsDistinct-head, IsDistinct-tail}
pub use Rattle.std.proofs.lemmas.Map.Made.{filter_same_pairs, is_some-lookup}
pub use Rattle.std.proofs.lemmas.Map.Steps.{le-length_from_below, length-le_from_distinct_below, length-le_from_keys}
pub use Rattle.std.proofs.lemmas.Option.{none-some, same_Some, slice_get-get_or, slice_get_past, slice_get_within}
pub use Rattle.std.proofs.lemmas.Result.{err_from_is_err_and}
pub use Rattle.std.specs.Cmp.{both_ways as both_tests, nat_eq_equiv}
pub use Rattle.std.specs.List.{AllByRecursion, IsDistinct, list_any}
pub use Rattle.std.specs.Map.{keys_of, lookup}
pub use Rattle.std.specs.Option.{ok_or}
pub use Rattle.std.specs.Prelude.{Contains, IfNone, IfOk, IfSome, IsSome, OnErr, nat_lt, slice_get, ◌↔◌}
pub use Rattle.td_base.proofs.Lists.{all_map}
pub use Rattle.td_base.specs.Ep.{same_ep-self, same_ep-true, same_ep_equiv}
unfoldable pub use Rattle.td_base.specs.Ep.{same_ep}
pub use Rattle.td_base.specs.Ip4.{same_ip-self, same_ip-true, same_ip_decides}
unfoldable pub use Rattle.td_base.specs.Ip4.{same_ip}
pub use Rattle.td_base.specs.declared.endpoint.Ep.{Ep}
pub use Rattle.td_base.specs.declared.ipv4.Ip4.{Ip4}
pub use Rattle.td_base.specs.declared.millis.Millis.{Millis}
pub use Rattle.nat_kinds.specs.Answer.{GivesAnswer, GivesPort, IsAnswer, answer_of, from_external, leaves_from, live_after, nat_answer, port_for}
pub use Rattle.nat_kinds.specs.Asked.{IsNoted, IsOnce, IsSwept, Recalls, asked_at, asked_by, asked_with, inside_by, is_recent, keeps_asked, passes, recalled}
pub use Rattle.nat_kinds.specs.Entering.{admits, inside_if, inside_in, inside_of, is_way_in, lets_in, reaches}
pub use Rattle.nat_kinds.specs.Front.{HasKeyOnlyAt, IsFront, IsLiveFront}
pub use Rattle.nat_kinds.specs.History.{Forget, NatEntry, Out, Restart, counting, is_young, kept, without, young}
pub use Rattle.nat_kinds.specs.Laws.{Asked, IsHistory, IsPast, SameKey, WasAsked, latest_moment}
pub use Rattle.nat_kinds.specs.Mappings.{IsLowestFree, first_free, has_key, is_used, latest, live_port, lowest_free, port_in}
pub use Rattle.nat_kinds.specs.Nat.{NatStandsFor, NatState, StandsAsBefore}
pub use Rattle.nat_kinds.specs.Places.{HasNoLive, IsFree, IsIndexed, IsLiveAt, IsNext, IsPutIn, IsSetAt, Shows, if_young, in_place, indexed, place_at, place_with, unless_at, unless_in, unless_key, unless_of, unless_way, way_of}
pub use Rattle.nat_kinds.specs.Sound.{Agree, AgreesWith, InRange, Sound}
pub use Rattle.nat_kinds.specs.Way.{asked_way, key_way, same_parts, same_way-self, same_way-true, same_way_equiv}
unfoldable pub use Rattle.nat_kinds.specs.Way.{same_way}
pub use Rattle.nat_kinds.specs.declared.departure.Departure.{Departure}
pub use Rattle.nat_kinds.specs.declared.front.Front.{Front}
pub use Rattle.nat_kinds.specs.declared.kind.NatKind.{NatKind}
pub use Rattle.nat_kinds.specs.declared.kind.NatKind.TheVariants.{Cone, Port, Restricted, Symmetric}
pub use Rattle.nat_kinds.specs.declared.limits.TheConstants.{FIRST_PORT, MAPPINGS_MAX}
pub use Rattle.nat_kinds.specs.declared.outgoing.Outward.{Outward}
pub use Rattle.nat_kinds.specs.declared.refusal.NatRefusal.{NatRefusal}
pub use Rattle.nat_kinds.specs.declared.refusal.NatRefusal.TheVariants.{Full, Hairpin}
pub use Rattle.nat_kinds.specs.declared.settings.NatSettings.{NatSettings}
pub use Rattle.nat_kinds.specs.declared.way.Way.{Way}
