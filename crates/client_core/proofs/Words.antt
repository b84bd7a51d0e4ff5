-- Where the words of this crate's proofs are defined: its files name them from here. `.ci/words` keeps this file.
pub use Rattle.byteorder.specs.Endian.{big_bytes}
pub use Rattle.std.proofs.Common.{Bool, List, None, Option, Some, [], ap, arith, false, length, not, refl, rules, subst, sym, true, ℕ, ◌&&◌, ◌+◌, ◌-◌, ◌<◌, ◌∙◌, ◌∷◌, ◌≡◌, ◌≤◌}
pub use Rattle.std.proofs.Math.Nat.{le_refl}
pub use Rattle.std.proofs.lemmas.Bool.{and_parts, false≢true, le-leb, lt-leb, ltb-false, ltb-true}
pub use Rattle.std.proofs.lemmas.List.Sums.{sum-map}
pub use Rattle.std.proofs.lemmas.Result.{on_err_weaker, on_ok_weaker}
pub use Rattle.std.proofs.lemmas.Simd.{map-map}
pub use Rattle.std.specs.Prelude.{IfNone, drop, if◌then◌else◌, is_some, map, max, nat_le, nat_lt, option_map, option_to_list, replicate, sum, unwrap_or}
pub use Rattle.td_base.proofs.ResultLaws.{on_err_always, on_ok_both}
pub use Rattle.td_base.proofs.WriteLemmas.{fills, has_room}
pub use Rattle.td_base.specs.Bytes.{IsBytes}
pub use Rattle.td_base.specs.declared.endpoint.Ep.{Ep}
pub use Rattle.td_base.specs.declared.ipv6.Ip6.{Ip6}
pub use Rattle.td_base.specs.declared.millis.Millis.{Millis}
pub use Rattle.td_base.specs.declared.span.Span.{Span}
pub use Rattle.ipv6_packet.proofs.PacketLaws.{packet_len}
pub use Rattle.ipv6_packet.specs.Packets.{Fields, packet_bytes, packet_view}
pub use Rattle.ipv6_packet.specs.Reads.{fields_in, is_packet}
unfoldable pub use Rattle.ipv6_packet.specs.Reads.{is_big}
unfoldable pub use Rattle.icmp6.specs.Layout.{message_bytes}
pub use Rattle.icmp6.specs.Message.{echo_request}
pub use Rattle.teredo_addr.specs.Teredo.{embedded, has_cone, is_teredo, unspecified}
pub use Rattle.indications.specs.Leads.{origin_in}
pub use Rattle.bubble.proofs.LawProofs.{payload_is_spelled}
pub use Rattle.bubble.proofs.PacketsIn.{source_there}
pub use Rattle.bubble.specs.PacketsIn.{packet_given, source_in}
unfoldable pub use Rattle.bubble.specs.PacketsIn.{destination_in, packet_in}
pub use Rattle.bubble.specs.Payloads.{Value, payload_view}
pub use Rattle.bubble.specs.Reads.{is_payload, value_in}
pub use Rattle.teredo_node.specs.Due.{Idles, IsFirstDue, Lessens}
pub use Rattle.teredo_node.specs.Journal.{Entry, Journal, Words, arrived, from_six, given, is_changed, ticked, with_entry}
pub use Rattle.teredo_node.specs.Sends.{has_any, releases, send, sending}
pub use Rattle.teredo_node.specs.Step.{Send, Step, just, rest_of, with_send}
pub use Rattle.teredo_node.specs.Words.{drawn_words, nonce_from, nonce_of_words}
pub use Rattle.teredo_node.specs.declared.fate.Fate.{Fate}
pub use Rattle.peer_list.proofs.LawProofs.{calls_of_an_entry, found_is_listed, hold_goes_on, idle_stands, kept_stands, listed_is_known, next_stands, table_is_read, touch_goes_on}
pub use Rattle.peer_list.specs.Calls.{TriesUnless, Updates, emptied, heard_at, held_at, queued_at, touched_at, tried_at, trusted_at}
pub use Rattle.peer_list.specs.Judged.{due_of}
unfoldable pub use Rattle.peer_list.specs.Judged.{holds_most, is_trusted_at}
pub use Rattle.peer_list.specs.Laws.{after}
pub use Rattle.peer_list.specs.Mentions.{Bearing, Mention, concerns_peer, no_bearing}
pub use Rattle.peer_list.specs.Overdue.{IsNoSooner, IsSooner, due_by, due_moment, listing_at, overdue_in}
pub use Rattle.peer_list.specs.Peers.{Peer, no_peer, peer_at}
pub use Rattle.peer_list.specs.Stands.{MeansNothing, SaysTheSame, StandsForMentions, about_nobody, bears_nothing}
pub use Rattle.peer_list.specs.Table.{Table, first_due_in, known_to, listed_in, peer_in, waiting_in}
unfoldable pub use Rattle.peer_list.specs.Table.{has_room_in}
pub use Rattle.peer_list.specs.Waiting.{Listing}
pub use Rattle.qualify.proofs.LawProofs.{keeps_still}
pub use Rattle.qualify.proofs.Stands.{stands_by}
pub use Rattle.qualify.specs.Advertisements.{advert_words, heard, phase_line}
unfoldable pub use Rattle.qualify.specs.Advertisements.{advert_row}
unfoldable pub use Rattle.qualify.specs.Generator.{after_words}
pub use Rattle.qualify.specs.Qualification.{Qualification, qualification}
pub use Rattle.qualify.specs.Qualifier.{IsOfAdvert, IsOfServer, IsOfTick, QualifierStandsFor, QualifierState, has_due, stands_whole}
pub use Rattle.qualify.specs.Solicitations.{due_fate, is_due, is_qualified, own_address, solicits_by, step_at}
unfoldable pub use Rattle.qualify.specs.Solicitations.{due_step}
pub use Rattle.qualify.specs.Turns.{says_nothing, turn, turn_of}
pub use Rattle.qualify.specs.declared.limits.TheConstants.{SOLICITATIONS_MAX}
pub use Rattle.qualify.specs.declared.phase.Phase.{Phase}
pub use Rattle.qualify.specs.declared.phase.Phase.TheVariants.{Cone, OffLine, Qualified, Restricted, Secondary, Symmetric}
pub use Rattle.qualify.specs.declared.settings.Settings.{Settings}
pub use Rattle.client_rules.proofs.LawProofs.{fate_of_reception, fate_of_transmission, next_mentions}
pub use Rattle.client_rules.specs.Bearings.{bearing_of, held_of, mention}
unfoldable pub use Rattle.client_rules.specs.Bearings.{mentions}
pub use Rattle.client_rules.specs.Journals.{entry, first_peer}
unfoldable pub use Rattle.client_rules.specs.Journals.{client_due, client_in, client_out, client_tick}
pub use Rattle.client_rules.specs.Reception.{Seen, hands_late, is_plain, is_testable, reception_row, reception_step, seen_of}
unfoldable pub use Rattle.client_rules.specs.Reception.{reception, reception_fate, seen}
pub use Rattle.client_rules.specs.Standing.{Standing, standing_of}
unfoldable pub use Rattle.client_rules.specs.Standing.{standing_at}
pub use Rattle.client_rules.specs.TakenPlaces.{TakesPlace}
pub use Rattle.client_rules.specs.Ticks.{Due, asks, nothing, peer_due, peer_of_due, sooner, tick, tries, tries_peer, try_fate}
unfoldable pub use Rattle.client_rules.specs.Ticks.{due_at, next_due}
pub use Rattle.client_rules.specs.Transmission.{given_of, queues, transmission_row, transmission_step}
unfoldable pub use Rattle.client_rules.specs.Transmission.{transmission}
pub use Rattle.client_rules.specs.Tries.{both_bubbles, direct_bubble, tries_by, try_nonce, try_words}
unfoldable pub use Rattle.client_rules.specs.Tries.{test, try_sends}
pub use Rattle.client_core.specs.Client.{AsBefore, ClientStandsFor, Does, Enters, IsDatagramOf, KeepsAll, KeepsPlace, TakesPayload, WantsPlace, WantsQueue, entry_about, fate_in, listed_peers, settings_of, standing_in, words_ahead}
pub use Rattle.client_core.specs.Endpoint.{PutsOff, owing, peer_may, phase_may}
pub use Rattle.client_core.specs.Laws.{ClientIsRead}
pub use Rattle.client_core.specs.Lines.{DropsDatagram, DropsPacket, OnlyPeers, SaysNothing, given_to, tested}
pub use Rattle.client_core.specs.declared.client.Client.{Client}
