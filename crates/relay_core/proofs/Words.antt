-- Where the words of this crate's proofs are defined: its files name them from here. `.ci/words` keeps this file.
pub use Rattle.std.proofs.Common.{Bool, List, None, Option, Some, [], ap, arith, false, length, refl, rules, subst, sym, true, ℕ, ◌+◌, ◌-◌, ◌<◌, ◌∙◌, ◌∷◌, ◌≡◌, ◌≤◌}
pub use Rattle.std.proofs.Math.Nat.{le_refl, le_trans}
pub use Rattle.std.proofs.lemmas.Bool.{false≢true, ltb-false}
pub use Rattle.std.proofs.lemmas.List.Sums.{sum-map}
pub use Rattle.std.proofs.lemmas.Result.{on_err_weaker}
pub use Rattle.std.proofs.lemmas.Simd.{map-map}
pub use Rattle.std.specs.Prelude.{IfNone, if◌then◌else◌, is_some, option_map, sum, unwrap_or}
pub use Rattle.td_base.proofs.ResultLaws.{on_err_always, on_ok_both}
pub use Rattle.td_base.specs.Ip6.{same_ip6, same_ip6-true}
pub use Rattle.td_base.specs.declared.endpoint.Ep.{Ep}
pub use Rattle.td_base.specs.declared.ipv6.Ip6.{Ip6}
pub use Rattle.td_base.specs.declared.millis.Millis.{Millis}
pub use Rattle.td_base.specs.declared.span.Span.{Span}
pub use Rattle.ipv6_packet.specs.Packets.{Fields, packet_view}
pub use Rattle.ipv6_packet.specs.Reads.{fields_in, is_packet}
unfoldable pub use Rattle.ipv6_packet.specs.Reads.{is_big}
pub use Rattle.teredo_addr.specs.Teredo.{embedded, has_cone, unspecified}
pub use Rattle.bubble.proofs.PacketsIn.{packet_there, source_there}
pub use Rattle.bubble.specs.PacketsIn.{packet_given, packet_in, source_in}
unfoldable pub use Rattle.bubble.specs.PacketsIn.{destination_in}
pub use Rattle.bubble.specs.PayloadOf.{IsPayloadOf}
pub use Rattle.bubble.specs.Payloads.{Value, payload_view}
pub use Rattle.bubble.specs.Reads.{is_payload, value_in}
pub use Rattle.teredo_node.specs.Due.{Idles, Lessens}
pub use Rattle.teredo_node.specs.Journal.{Entry, arrived, from_six, given, ticked}
pub use Rattle.teredo_node.specs.Sends.{releases, send, sending}
pub use Rattle.teredo_node.specs.Step.{Step, just, rest_of}
pub use Rattle.teredo_node.specs.declared.fate.Fate.{Fate}
pub use Rattle.peer_list.proofs.LawProofs.{calls_of_an_entry, idle_stands, kept_stands, listed_is_known, next_stands, table_is_read, touch_goes_on}
pub use Rattle.peer_list.specs.Calls.{TriesUnless, Updates, emptied, heard_at, queued_at, touched_at, tried_at, trusted_at}
pub use Rattle.peer_list.specs.Judged.{is_spent, is_within}
pub use Rattle.peer_list.specs.Laws.{after}
pub use Rattle.peer_list.specs.Mentions.{concerns_peer}
pub use Rattle.peer_list.specs.Overdue.{IsNoSooner, IsOverdue, due_by, due_moment, listing_at}
pub use Rattle.peer_list.specs.Peers.{Peer, no_peer, peer_at}
pub use Rattle.peer_list.specs.Stands.{MeansNothing, SaysTheSame, StandsForMentions, about_nobody, bears_nothing}
pub use Rattle.peer_list.specs.Table.{Table, empty_table, first_due_in, known_to, listed_in, while_listed}
unfoldable pub use Rattle.peer_list.specs.Table.{peer_in}
pub use Rattle.peer_list.specs.Waiting.{Listing}
pub use Rattle.peer_list.specs.declared.limits.TheConstants.{LISTED_MS}
pub use Rattle.relay_rules.proofs.LawProofs.{fate_of_transmission}
pub use Rattle.relay_rules.proofs.Quiet.{quiet_if, quiet_none, waits_no_more}
pub use Rattle.relay_rules.specs.Bearings.{relay_mention}
unfoldable pub use Rattle.relay_rules.specs.Bearings.{relay_mentions}
pub use Rattle.relay_rules.specs.Journals.{relay_first_peer, wordless_entry}
unfoldable pub use Rattle.relay_rules.specs.Journals.{relay_due, relay_in, relay_six, relay_tick}
pub use Rattle.relay_rules.specs.Laws.{IsQuiet}
pub use Rattle.relay_rules.specs.Reception.{relay_reception_row, relay_reception_step, relay_seen_of}
unfoldable pub use Rattle.relay_rules.specs.Reception.{relay_reception, relay_seen}
pub use Rattle.relay_rules.specs.Standing.{RelaySettings, RelayStanding, relay_standing_of}
unfoldable pub use Rattle.relay_rules.specs.Standing.{relay_standing_at}
pub use Rattle.relay_rules.specs.Ticks.{relay_peer_of_due, relay_tick_step, relay_tries_peer}
pub use Rattle.relay_rules.specs.Transmission.{bubble_to, relay_given_of, relay_queues, relay_transmission_row, relay_transmission_step}
unfoldable pub use Rattle.relay_rules.specs.Transmission.{relay_given, relay_transmission}
pub use Rattle.relay_core.specs.Endpoint.{DoesDue, relay_owing}
pub use Rattle.relay_core.specs.Laws.{RelayIsRead}
pub use Rattle.relay_core.specs.Lines.{RelayDropsDatagram, RelayDropsPacket, given_to_relay}
pub use Rattle.relay_core.specs.Relay.{RelayAsBefore, RelayDoes, RelayEnters, RelayKeepsAll, RelayStandsFor, RelayTakesPayload, WantsMemory, relay_entry_about, relay_fate_in, relay_listed_peers, relay_settings_of, relay_standing_in, to_list, to_wait}
pub use Rattle.relay_core.specs.declared.relay.Relay.{Relay}
