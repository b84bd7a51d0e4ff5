-- Where the words of this crate's proofs are defined: its files name them from here. `.ci/words` keeps this file.
pub use Rattle.std.proofs.Common.{Bool, List, None, Option, Some, [], ap, arith, cond, false, length, map, not, refl, subst, sym, true, ℕ, ◌++◌, ◌+◌, ◌||◌, ◌∙◌, ◌∷◌, ◌≡◌, ◌≤◌}
pub use Rattle.std.proofs.Math.Nat.{le_refl}
pub use Rattle.std.proofs.lemmas.Bool.{false≢true, not-false}
pub use Rattle.std.specs.List.{AllByRecursion}
pub use Rattle.std.specs.Prelude.{Err, IfSome, Ok, Result, is_some, nat_le, option_map, option_to_list, unwrap_or}
pub use Rattle.td_base.specs.Bytes.{IsBytes}
pub use Rattle.td_base.specs.Ep.{IsEp}
pub use Rattle.td_base.specs.Ip6.{IsIp6, same_ip6-true}
pub use Rattle.td_base.specs.Reach.{is_global6}
pub use Rattle.td_base.specs.declared.datagram.TheConstants.{DATAGRAM_MAX}
pub use Rattle.td_base.specs.declared.endpoint.Ep.{Ep}
pub use Rattle.td_base.specs.declared.ipv6.Ip6.{Ip6}
pub use Rattle.ipv6_packet.proofs.LawProofs.{packet_is_bytes, packet_is_spelled}
pub use Rattle.ipv6_packet.proofs.PacketLaws.{short_body}
pub use Rattle.ipv6_packet.specs.Packets.{Fields, packet_at}
pub use Rattle.ipv6_packet.specs.Reads.{fields_or, is_ok_packet}
unfoldable pub use Rattle.ipv6_packet.specs.Reads.{fields_in, is_packet}
pub use Rattle.ipv6_packet.specs.declared.fault.PacketFault.{PacketFault}
pub use Rattle.ipv6_packet.specs.declared.header.TheConstants.{HEADER}
pub use Rattle.teredo_addr.proofs.AddressLaws.{embedded_is, server_is}
pub use Rattle.teredo_addr.specs.Teredo.{embedded, has_cone, is_teredo, unspecified}
pub use Rattle.bubble.proofs.LawProofs.{bubble_reads_back, packet_is_payload, payload_is_spelled}
pub use Rattle.bubble.proofs.MadeInputs.{destination_is, destination_made, packet_came, packet_is, source_is}
pub use Rattle.bubble.specs.PacketsIn.{packet_in}
unfoldable pub use Rattle.bubble.specs.PacketsIn.{destination_in, packet_given, source_in}
pub use Rattle.bubble.specs.Payloads.{Value}
pub use Rattle.bubble.specs.Reads.{value_in}
pub use Rattle.teredo_node.proofs.FirstLines.{by_lines, first_where, skip}
pub use Rattle.teredo_node.specs.Journal.{Entry, Input, arrived, from_six, given, given as handed, ticked}
pub use Rattle.teredo_node.specs.MadeInputs.{AreMadeInputs, IsMadeInput}
pub use Rattle.teredo_node.specs.Rows.{first_line}
pub use Rattle.teredo_node.specs.Sends.{releases, send}
pub use Rattle.teredo_node.specs.Step.{Send}
pub use Rattle.teredo_node.specs.declared.fate.Fate.{Fate}
pub use Rattle.peer_list.proofs.FromMentions.{IsBefore, all_later, held_is_kept, kept, peer_is, peer_is_if, trust_is_kept, waiting_is_kept}
pub use Rattle.peer_list.proofs.LawProofs.{few_listed, first_waits, of_a_touch, of_another, of_no_touch}
pub use Rattle.peer_list.proofs.MadeMentions.{IsMadeMention, listed_peer, waiting_is}
pub use Rattle.peer_list.proofs.Rooms.{listed_has_room, not_known, room_by, room_of_none}
pub use Rattle.peer_list.specs.Few.{FindsRoom, HaveRoom}
pub use Rattle.peer_list.specs.Judged.{due_of, is_barred, is_none, is_spent}
pub use Rattle.peer_list.specs.Laws.{InOrder, after, tries_after}
pub use Rattle.peer_list.specs.Listed.{has_room, is_younger}
unfoldable pub use Rattle.peer_list.specs.Listed.{is_listed}
pub use Rattle.peer_list.specs.Mentions.{Mention, is_about, is_peer}
pub use Rattle.peer_list.specs.Overdue.{due_by}
pub use Rattle.peer_list.specs.Peers.{Peer, known, no_peer}
unfoldable pub use Rattle.peer_list.specs.Peers.{peer_at}
pub use Rattle.peer_list.specs.Waiting.{Listing, first_due}
pub use Rattle.peer_list.specs.declared.limits.TheConstants.{LISTED_MS}
pub use Rattle.relay_rules.specs.Bearings.{embedded_at, relay_bearing_of, relay_mention}
unfoldable pub use Rattle.relay_rules.specs.Bearings.{relay_mentions}
pub use Rattle.relay_rules.specs.ForeignSends.{EachSendIsForeign, IsForeignSend, IsMadeRelay}
pub use Rattle.relay_rules.specs.Journals.{IsRelayJournal, relay_entry, relay_first_peer, relay_last_moment, relay_ticks, wordless_entry}
unfoldable pub use Rattle.relay_rules.specs.Journals.{relay_in, relay_six, relay_tick}
pub use Rattle.relay_rules.specs.Laws.{ConeIsQuiet, FateOfRelayReception, FateOfRelayTransmission, HoldsNothing, IsForeignTo, IsQuiet, RelayJournalHasFew, RelayJournalIsTried, RelayReceptionIsWarranted, RelayTransmissionIsWarranted, RelayTriesTouch, RelayTrustedIsEmbedded, WaitingIsForeign}
pub use Rattle.relay_rules.specs.Reception.{RelaySeen, reception_lines, relay_reception_row, relay_reception_step, released}
unfoldable pub use Rattle.relay_rules.specs.Reception.{relay_reception, relay_seen}
pub use Rattle.relay_rules.specs.Sendings.{EachRelaySend, IsRelaySending, bubbles, carries}
pub use Rattle.relay_rules.specs.Standing.{RelaySettings, RelayStanding, relay_known_in, relay_standing_of}
unfoldable pub use Rattle.relay_rules.specs.Standing.{relay_standing_at}
pub use Rattle.relay_rules.specs.TickWarrants.{RelayTickIsWarranted, RelayTickedOnlyIf}
pub use Rattle.relay_rules.specs.Ticks.{relay_peer_of_due, relay_tick_step, relay_tries_peer}
pub use Rattle.relay_rules.specs.Transmission.{RelayGiven, relay_destination_lines, relay_packet_lines, relay_queues, relay_transmission_row, relay_transmission_step}
unfoldable pub use Rattle.relay_rules.specs.Transmission.{bubble_to, relay_given, relay_transmission}
pub use Rattle.relay_rules.specs.Warrants.{IsOfPeer, RelayGoesLater, RelayGoesOut, RelayReceivedOnlyIf, RelaySentOnlyIf}
