-- Where the words of this crate's proofs are defined: its files name them from here. `.ci/words` keeps this file.
pub use Rattle.std.proofs.Common.{Bool, List, None, Option, Some, [], add-one, ap, arith, drop, drop-cons, false, filter, filter_map, find, get_or, inl, inr, le_trans, length, length-append, map, refl, reverse, rules, set, subst, suc, sym, take, true, zero, ℕ, ◌++◌, ◌+◌, ◌-◌, ◌<◌, ◌∙◌, ◌∷◌, ◌≡◌, ◌≢◌, ◌≤◌, ◌⊎◌}
pub use Rattle.std.proofs.Math.Seq.{get_or-append_seam}
pub use Rattle.std.proofs.lemmas.Bool.Decides.{nat_tests}
pub use Rattle.std.proofs.lemmas.Fn.{filter_same}
pub use Rattle.std.proofs.lemmas.Grind.{flat_map-append, reverse_onto}
pub use Rattle.std.proofs.lemmas.List.{append_assoc, get_or-map, get_or-set_other, get_or-set_same, get_or_append_left, get_or_past, get_or_read_under, length-map, length-set, length-take-le, map-append, map-set, reverse-append, reverse-reverse, take-append-drop, take_more}
pub use Rattle.std.proofs.lemmas.List.Elements.{filter-append, filter_map-append}
pub use Rattle.std.proofs.lemmas.List.Folds.{flat_map-map}
pub use Rattle.std.proofs.lemmas.Option.{slice_get_cases}
pub use Rattle.std.specs.List.{AllByRecursion, flat_map, list_any, position_from}
pub use Rattle.std.specs.Prelude.{IfSome, if◌then◌else◌, is_some, nat_eq, not, option_map, option_to_list, slice_get, unwrap_or, ◌&&◌, ◌==◌, ◌||◌}
pub use Rattle.td_base.specs.Ip6.{same_ip6, same_ip6-self, same_ip6-true}
pub use Rattle.td_base.specs.declared.endpoint.Ep.{Ep}
pub use Rattle.td_base.specs.declared.ipv6.Ip6.{Ip6}
pub use Rattle.td_base.specs.declared.millis.Millis.{Millis}
pub use Rattle.teredo_addr.specs.Teredo.{unspecified}
pub use Rattle.teredo_node.specs.Journal.{Entry, Journal, is_changed}
pub use Rattle.teredo_node.specs.declared.fate.Fate.{Fate}
pub use Rattle.peer_list.proofs.LawProofs.{listed_are, listed_is_known, one_entry}
pub use Rattle.peer_list.specs.Laws.{after, peer_if}
pub use Rattle.peer_list.specs.Listed.{is_younger, with_peer}
unfoldable pub use Rattle.peer_list.specs.Listed.{is_listed, listed, touched}
pub use Rattle.peer_list.specs.Mentions.{Bearing, Mention, is_about}
pub use Rattle.peer_list.specs.Peers.{Peer, known, no_peer}
unfoldable pub use Rattle.peer_list.specs.Peers.{peer_at}
pub use Rattle.peer_list.specs.declared.held.Held.{Held}
pub use Rattle.peer_list.specs.declared.limits.TheConstants.{LISTED_MS}
pub use Rattle.client_rules.specs.Bearings.{bearing_of, held_of, mention, source_of}
unfoldable pub use Rattle.client_rules.specs.Bearings.{mentions}
pub use Rattle.relay_rules.specs.Bearings.{relay_bearing_of, relay_mention}
unfoldable pub use Rattle.relay_rules.specs.Bearings.{relay_mentions}
pub use Rattle.topology.specs.Rows.{TopologyState}
pub use Rattle.topology.specs.Topology.{node_at, nodes}
pub use Rattle.topology.specs.declared.node.Node.{Node}
pub use Rattle.topology.specs.declared.node.Node.TheVariants.{Client as client, Nat as nat, Native as native, Relay as relay, Server as server}
pub use Rattle.topology.specs.declared.topology.TheConstants.{NODES_MAX}
pub use Rattle.history.specs.Full.{Full, Made, item_in, lost, sent, six, udp, wire}
pub use Rattle.history.specs.Records.{after_made, handed_of, marks_of, record_of}
pub use Rattle.history.specs.declared.act.Act.{Act}
pub use Rattle.history.specs.declared.mark.Mark.{Mark}
pub use Rattle.history.specs.declared.records.Record.{Record}
pub use Rattle.legal.specs.Laws.{IsAskedFor, delivers, is_delivering, others}
pub use Rattle.legal.specs.Past.{is_node, is_restart, journal, now, with_entries}
pub use Rattle.states.specs.Kept.{is_lower_ip6, listed_in_order}
pub use Rattle.states.specs.Orders.{in_order, put_by}
pub use Rattle.states.specs.PeerFates.{changes_client, changes_peer}
pub use Rattle.loads.specs.Ends.{carries, first_node, holding_node, is_held_among, is_load, waiting_node, waits_among}
pub use Rattle.loads.specs.Loads.{Loads, answer_to, entry_loads, entry_peer, is_handing_in, load_at, load_given, load_goes_on, loads, made_loads, mentions_at, mentions_if, released_records, releases_all}
pub use Rattle.loads.specs.Numbered.{HeldRecord, held_for, held_record, mentions_by, number_in, numbered_mentions, waiting_records, with_number, with_record_numbers}
pub use Rattle.loads.specs.Sayings.{arrives_if, dropped_peers, dropped_records, drops_peers, ended_records, ends_holding, gives_up, goes_by, hands_over_held, is_changed_address, is_late, is_same_source, makes_reply, marks_by, said_of_ended, said_of_released, said_to_end, said_with, saying, sayings_of, source_of_entry, way_by_fate}
pub use Rattle.loads.specs.declared.load.Load.{Load}
pub use Rattle.loads.specs.declared.load.Load.TheVariants.{Packet}
pub use Rattle.loads.specs.declared.saying.Saying.{Saying}
pub use Rattle.loads.specs.declared.way.Way.TheVariants.{Ends, Goes}
pub use Rattle.load_keeper.specs.Effects.{client_effect, relay_effect}
pub use Rattle.load_keeper.specs.Hearing.{after_effect_on, begins_anew, effect_at, entries_by_marks, entry_by_mark, late_source, load_by_act, load_that_goes_on, loads_released, node_after, peers_dropped, peers_in_order, says_by, says_of_dropped, says_of_ended, says_of_given, says_of_held, says_of_one, says_to_end}
pub use Rattle.load_keeper.specs.Keeper.{AreEmpty, AreKeptAfter, IsEntryOf, IsPeerOf, IsToldOf, KeepsItsPacket, StandsForLoads, changes_at, is_of_peer, kept_at, node_after_at, node_if}
pub use Rattle.load_keeper.specs.Kept.{KeepsLoadsOf, NodeKept, PeerLoads, after_effect, after_keeping, after_touch, is_kept_of, kept_of_others, lists_peer, load_that_is_held, load_that_waits, loads_for_peer, loads_held, loads_known, loads_known_or_none, loads_of_peer, loads_waiting, no_loads, node_kept, nothing_kept, outlasts_giving_up, with_touch}
pub use Rattle.load_keeper.specs.Queries.{carries_load, keeping_node, keeps_load}
pub use Rattle.load_keeper.specs.Touches.{IsTouchAt, are_apart, is_young_touch, touches_peer}
pub use Rattle.load_keeper.specs.declared.effect.Effect.{Effect}
pub use Rattle.load_keeper.specs.declared.effect.Effect.TheVariants.{GivesUp, Hears, Holds, Nothing, Queues, Tests, Touches}
pub use Rattle.load_keeper.specs.declared.held_load.HeldLoad.{HeldLoad}
pub use Rattle.load_keeper.specs.declared.kept_load.KeptLoad.{KeptLoad}
pub use Rattle.load_keeper.specs.declared.load_keeper.LoadKeeper.{LoadKeeper}
pub use Rattle.load_keeper.specs.declared.node_loads.NodeLoads.{NodeLoads}
pub use Rattle.load_keeper.specs.declared.touch.Touch.{Touch}
