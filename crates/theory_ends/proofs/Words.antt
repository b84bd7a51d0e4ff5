-- Where the words of this crate's proofs are defined: its files name them from here. `.ci/words` keeps this file.
pub use Rattle.std.proofs.Common.{Bool, List, None, Option, Some, [], add-one, ap, append-nil, arith, false, filter, inl, inr, is_some, length, length-append, map, refl, reverse, subst, suc, sym, true, zero, ℕ, ◌++◌, ◌+◌, ◌<◌, ◌∙◌, ◌∷◌, ◌≡◌, ◌≤◌, ◌⊎◌}
pub use Rattle.std.proofs.lemmas.Bool.{eqb-true}
pub use Rattle.std.proofs.lemmas.Bool.Decides.{nat_tests}
pub use Rattle.std.proofs.lemmas.Grind.{reverse_onto}
pub use Rattle.std.proofs.lemmas.List.{get_or_append_left, reverse-append, reverse-reverse}
pub use Rattle.std.proofs.lemmas.List.Concat.{flat_map-cons}
pub use Rattle.std.proofs.lemmas.List.Elements.{filter-append}
pub use Rattle.std.specs.List.{AllByRecursion, flat_map, list_any}
pub use Rattle.std.specs.Option.{option_or}
pub use Rattle.std.specs.Prelude.{Contains, IfSome, if◌then◌else◌, not, option_and_then, option_map, slice_get, unwrap_or, ◌&&◌, ◌||◌}
pub use Rattle.td_base.specs.Ip6.{same_ip6, same_ip6-true}
pub use Rattle.td_base.specs.declared.endpoint.Ep.{Ep}
pub use Rattle.td_base.specs.declared.ipv6.Ip6.{Ip6}
pub use Rattle.teredo_node.specs.Journal.{Entry, Input, Journal, Words, arrived, from_six, given, is_changed, ticked}
pub use Rattle.teredo_node.specs.declared.fate.Fate.{Fate}
pub use Rattle.peer_list.proofs.FromMentions.{holding_is_kept, known_none, waiting_is_kept}
pub use Rattle.peer_list.proofs.LawProofs.{lasts, listed_are, one_entry, unlisted}
pub use Rattle.peer_list.specs.Laws.{after, peer_if}
pub use Rattle.peer_list.specs.Listed.{is_listed, is_younger, listed}
pub use Rattle.peer_list.specs.Mentions.{Mention, is_about}
pub use Rattle.peer_list.specs.Peers.{Peer, known, no_peer, peer_at}
pub use Rattle.peer_list.specs.declared.limits.TheConstants.{LISTED_MS}
pub use Rattle.qualify.specs.declared.settings.Settings.{Settings}
pub use Rattle.client_rules.specs.Bearings.{bearing_of, held_of, mention, source_of}
unfoldable pub use Rattle.client_rules.specs.Bearings.{mentions}
pub use Rattle.client_rules.specs.Journals.{client_entry}
unfoldable pub use Rattle.client_rules.specs.Journals.{client_in, client_out, client_tick}
pub use Rattle.relay_rules.specs.Bearings.{relay_bearing_of, relay_mention}
unfoldable pub use Rattle.relay_rules.specs.Bearings.{relay_mentions}
pub use Rattle.relay_rules.specs.Journals.{relay_entry}
unfoldable pub use Rattle.relay_rules.specs.Journals.{relay_in, relay_six, relay_tick}
pub use Rattle.relay_rules.specs.Standing.{RelaySettings}
pub use Rattle.topology.specs.Rows.{TopologyState}
pub use Rattle.topology.specs.Topology.{node_at, nodes}
pub use Rattle.topology.specs.declared.node.Node.{Node}
pub use Rattle.topology.specs.declared.node.Node.TheVariants.{Client as client, Nat as nat, Native as native, Relay as relay, Server as server}
pub use Rattle.history.specs.Full.{Full, Made, lost, sent}
pub use Rattle.history.specs.declared.mark.Mark.{Mark}
pub use Rattle.legal.proofs.LawProofs.{acted, later}
pub use Rattle.legal.specs.Actors.{Acted, does, idles}
pub use Rattle.legal.specs.Emit.{entry_of}
pub use Rattle.legal.specs.Lab.{Lab}
pub use Rattle.legal.specs.Legal.{Grown}
pub use Rattle.legal.specs.Past.{is_node, is_number, is_restart, journal, now, was_delivered, with_entries, words}
pub use Rattle.legal.specs.Settings.{client_settings, relay_settings}
pub use Rattle.loads.specs.Ends.{NumberedSaying, all_sayings, carries, first_node, first_number, holding_node, is_arrival, is_arrival_of, is_held_among, is_load, is_said_of, last_number_of, open_entry, same_load, saying_by, waiting_node, waits_among}
pub use Rattle.loads.specs.FollowLines.{has_arrived}
pub use Rattle.loads.specs.Loads.{Loads, answer_to, entry_loads, entry_peer, is_handing_in, load_at, load_given, load_goes_on, loads, loads_after, made_loads, mentions_at, mentions_if, released_records, releases_all}
pub use Rattle.loads.specs.Numbered.{HeldRecord, held_for, held_record, mentions_by, number_in, numbered_mentions, waiting_records, with_number, with_record_numbers}
pub use Rattle.loads.specs.Sayings.{arrives_if, dropped_peers, dropped_records, ended_records, ends_holding, gives_up, goes_by, is_late, makes_reply, marks_by, said_of_ended, said_of_given, said_of_released, said_to_end, saying, sayings_of, way_by_fate}
pub use Rattle.loads.specs.declared.end.End.{End}
pub use Rattle.loads.specs.declared.end.End.TheVariants.{Arrived, HeldAt, Lost, OnWire, WaitsAt}
pub use Rattle.loads.specs.declared.load.Load.{Load}
pub use Rattle.loads.specs.declared.load.Load.TheVariants.{Packet, ReplyTo}
pub use Rattle.loads.specs.declared.saying.Saying.{Saying}
pub use Rattle.loads.specs.declared.way.Way.{Way}
pub use Rattle.loads.specs.declared.way.Way.TheVariants.{Arrives, Ends, Goes, Waits}
pub use Rattle.theory_ends.specs.FirstArrival.{ArrivedIsFirst, IsFirstArrival, OthersNeverArrive, arrival}
pub use Rattle.theory_ends.specs.Gone.{IsGone}
pub use Rattle.theory_ends.specs.LastSaying.{IsLastSaying, LostIsLast, said_so}
pub use Rattle.theory_ends.specs.LostStays.{LostStaysLost, NoneDelivers, delivers_load, end_after, said_of_load}
