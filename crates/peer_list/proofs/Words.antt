-- Where the words of this crate's proofs are defined: its files name them from here. `.ci/words` keeps this file.
pub use Rattle.slab.proofs.SlabLemmas.{Contains-cons_cases, Contains-entries, Updates-with_value}
pub use Rattle.slab.specs.Slab.{ContainsKey, Slab, get, with_value}
pub use Rattle.std.proofs.Common.{Bool, Contains, Err, List, None, Ok, Option, Result, Some, [], ap, arith, cond, drop, false, filter, find, get_or, inl, inr, length, map, max, min, nat_lt, not, refl, reverse, rules, subst, suc, sym, take, true, zero, ℕ, ⊎_elim, ◌&&◌, ◌*◌, ◌++◌, ◌+◌, ◌-◌, ◌<◌, ◌||◌, ◌∙◌, ◌∷◌, ◌≡◌, ◌≤◌, ◌⊎◌}
pub use Rattle.std.proofs.Math.Nat.{le_refl, le_trans}
pub use Rattle.std.proofs.lemmas.Bool.{and_parts, cases_eq, eq-eqb, eqb-false, eqb-true, false≢true, le-leb, le-ltb, lt-leb, lt-ltb, ltb-false, ltb-true, ne_eqb, not-true, or_cases, or_left, or_parts, or_right}
pub use Rattle.std.proofs.lemmas.Fn.{filter_same}
pub use Rattle.std.proofs.lemmas.Grind.{reverse_onto}
pub use Rattle.std.proofs.lemmas.List.{append-nil, take-append-drop, take_more}
pub use Rattle.std.proofs.lemmas.List.Filters.{length-filter_both}
pub use Rattle.std.proofs.lemmas.List.Sorted.{IsPartitionPoint-from_clause}
pub use Rattle.std.proofs.lemmas.List.Sums.{length-filter, sum_by-cons, sum_by-le-sum_by}
pub use Rattle.std.proofs.lemmas.Map.Keys.{IsDistinct-cons, IsDistinct-head, IsDistinct-tail}
pub use Rattle.std.proofs.lemmas.Map.Views.{any-filter_same}
pub use Rattle.std.proofs.lemmas.Option.{cond_some, same_Some}
pub use Rattle.std.proofs.lemmas.Result.{err_from_is_err_and, on_err_weaker, on_ok_weaker}
pub use Rattle.std.specs.BTreeMap.{BTreeMap, IsOrdered, insert_entry, is_at}
pub use Rattle.std.specs.Borrow.{MutBor}
pub use Rattle.std.specs.Cmp.{IsTotalOrder, nat_cmp_total, on_total, then_total, tied_itself, upto}
pub use Rattle.std.specs.List.{AllByRecursion, cons_option, count_by, insert, list_any, remove}
unfoldable pub use Rattle.std.specs.List.{IsDistinct}
pub use Rattle.std.specs.List.Sorted.{IsPartitionedBy}
unfoldable pub use Rattle.std.specs.List.Sorted.{IsStrictlySortedBy}
pub use Rattle.std.specs.Map.{keys_of, lookup}
pub use Rattle.std.specs.Map.Calls.{RetainsPairs}
pub use Rattle.std.specs.Option.{option_or}
pub use Rattle.std.specs.Ordering.{is_eq, is_gt, is_lt, match_ordering, nat_cmp, ordering_reverse, ordering_then}
pub use Rattle.std.specs.Prelude.{IfSome, OnErr, OnOk, filter_map, is_ok, is_some, nat_eq, nat_le, option_map, option_to_list, slice_get, sum_by, unwrap_or}
pub use Rattle.std.specs.Vec.{vec_capacity}
pub use Rattle.std.specs.declared.cmp.Ordering.{Ordering}
pub use Rattle.std.specs.declared.cmp.Ordering.TheVariants.{Equal, Greater, Less}
pub use Rattle.td_base.proofs.Lists.{all_map}
pub use Rattle.td_base.specs.Bytes.{IsBytes}
pub use Rattle.td_base.specs.Ip6.{IsIp6, cmp_ip6, cmp_ip6_ties, cmp_ip6_total, same_ip6, same_ip6-self, same_ip6-true}
pub use Rattle.td_base.specs.declared.endpoint.Ep.{Ep}
pub use Rattle.td_base.specs.declared.ipv6.Ip6.{Ip6}
pub use Rattle.td_base.specs.declared.millis.Millis.{Millis}
pub use Rattle.td_base.specs.declared.millis.TheConstants.{CLOCK_END_MS}
pub use Rattle.teredo_node.specs.Due.{IsFirstDue}
pub use Rattle.teredo_node.specs.Sends.{releases}
pub use Rattle.peer_list.specs.Bounds.{AreEarly}
pub use Rattle.peer_list.specs.Calls.{Keeps, KnowsStill, KnowsThen, Updates, changed_at, emptied, heard_at, held_at, holding, queued_at, touched_at, tried_at, trusted_at}
pub use Rattle.peer_list.specs.Entries.{Adds, AreDueButOnce, AreDueOnce, AreInTurn, AreKept, AreWhole, AreWholeBut, IsAfter, IsFirstOf, IsPlaceFor, IsSinceAll, Leads, NameEachOther, SameEntries, entry_due, entry_for, entry_under, is_sooner, key_of, keys_without, listings_in, listings_of, with_peer_at}
pub use Rattle.peer_list.specs.Few.{FewListed, FindsRoom}
pub use Rattle.peer_list.specs.Judged.{held_elsewhere, held_from, is_none, is_within, young_tries}
unfoldable pub use Rattle.peer_list.specs.Judged.{due_of, holds_most, is_barred, is_full, is_spent}
pub use Rattle.peer_list.specs.Laws.{AreSame, CountTheSame, FirstIsEarliest, FirstWaits, InOrder, IsFirstBy, IsTried, IsWaiting, Lasts, ListedAre, ListedIsKnown, ListedOnce, OfATouch, OfAnother, OfNoTouch, OneEntry, OrderIsFree, TriesWithoutStay, Unlisted, after, peer_if, plain_tries, tries_after, view_after}
pub use Rattle.peer_list.specs.Listed.{is_recent_touch, is_younger, stay_with, touched_by, with_peer}
unfoldable pub use Rattle.peer_list.specs.Listed.{has_room, is_listed, listed, stay, touched}
pub use Rattle.peer_list.specs.Mentions.{Bearing, Mention, concerns_peer, is_about, is_peer, is_touch_of, latest_peer, no_bearing}
pub use Rattle.peer_list.specs.Overdue.{FirstOverdue, IsFirstOverdue, IsKeptDue, IsNoSooner, IsOverdue, IsPutOff, LessOverdue, NothingOverdue, due_moment, listing_at, while_due}
unfoldable pub use Rattle.peer_list.specs.Overdue.{overdue_in}
pub use Rattle.peer_list.specs.Peers.{Peer, all_tries, latest_given, no_peer, peer_of, since}
unfoldable pub use Rattle.peer_list.specs.Peers.{peer_at}
pub use Rattle.peer_list.specs.Sound.{AreApart, AreInOrder, AreSound, IsNotBefore, IsSince, NoneBefore, is_before}
pub use Rattle.peer_list.specs.Stands.{CallsOfAnEntry, FoundIsListed, HoldGoesOn, IdleStands, KeptStands, MeansNothing, NextStands, StandsForMentions, TableIsRead, TouchGoesOn, TouchedIsListed, UpdateIsSeen, UpdatesTwice, about_nobody, bears_nothing}
pub use Rattle.peer_list.specs.Table.{Table, addresses, due_and_who, earlier_due, first_due_in, is_listed_at, is_of, known_to, peer_listed, table, table_after, waiting_in, while_listed}
unfoldable pub use Rattle.peer_list.specs.Table.{has_room_in, listed_in, peer_in}
pub use Rattle.peer_list.specs.Timely.{AreTimely, FirstLasts, IsKeptTimely, IsTimely}
pub use Rattle.peer_list.specs.Waiting.{Listing, first_of_two, kept_count, least_by_due}
unfoldable pub use Rattle.peer_list.specs.Waiting.{cmp_due, first_among, kept_among, waiting_among}
pub use Rattle.peer_list.specs.declared.change.Change.{Change}
pub use Rattle.peer_list.specs.declared.change.Change.TheVariants.{GiveUp, Hear, Touch, Trust, TrustAndHear, Try}
pub use Rattle.peer_list.specs.declared.entries.Entries.{Entries}
pub use Rattle.peer_list.specs.declared.held.Held.{Held}
pub use Rattle.peer_list.specs.declared.limits.TheConstants.{HELD_MAX, LISTED_MS, PEERS_MAX, TRIES_MAX, TRY_GAP_MS, WAITING_MAX}
