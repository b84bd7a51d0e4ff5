-- Where the words of this crate's proofs are defined: its files name them from here. `.ci/words` keeps this file.
pub use Rattle.byteorder.specs.Endian.{big_bytes}
pub use Rattle.std.proofs.Common.{Bool, Contains, Err, List, None, Ok, Option, Result, Some, [], ap, arith, cond, drop, false, filter, inl, inr, length, map, nat_le, nat_lt, not, refl, subst, suc, sym, true, zero, ℕ, ◌&&◌, ◌++◌, ◌+◌, ◌∙◌, ◌∷◌, ◌≡◌, ◌≤◌, ◌⊎◌}
pub use Rattle.std.proofs.Math.Nat.{le_refl}
pub use Rattle.std.proofs.lemmas.Bool.{and_parts, false≢true, leb-true, ltb-false, ltb-true, not-false, not-true, true≢false}
pub use Rattle.std.proofs.lemmas.List.{length-append}
pub use Rattle.std.proofs.lemmas.List.Elements.{All-contains_itself, recursion_from_All}
pub use Rattle.std.specs.List.{AllByRecursion}
pub use Rattle.std.specs.Prelude.{IfSome, is_some, option_map, option_to_list, unwrap_or}
pub use Rattle.td_base.proofs.BytesLemmas.{AreBytes, IsBytes-append, IsBytes-big_bytes, are_bytes, byte_first, no_bytes, number_first}
pub use Rattle.td_base.proofs.Lists.{all_map}
pub use Rattle.td_base.specs.Bytes.{IsBytes}
pub use Rattle.td_base.specs.Ep.{IsEp, same_ep, same_ep-true, server_ep}
pub use Rattle.td_base.specs.Ip4.{IsIp4}
pub use Rattle.td_base.specs.Ip6.{IsIp6, same_ip6-true}
pub use Rattle.td_base.specs.declared.datagram.TheConstants.{DATAGRAM_MAX}
pub use Rattle.td_base.specs.declared.endpoint.Ep.{Ep}
pub use Rattle.td_base.specs.declared.ipv6.Ip6.{Ip6}
pub use Rattle.td_base.specs.declared.reach.Policy.{Policy}
pub use Rattle.td_base.specs.declared.span.Span.{Span}
pub use Rattle.ipv6_packet.proofs.LawProofs.{packet_is_bytes, packet_is_spelled}
pub use Rattle.ipv6_packet.proofs.PacketLaws.{short_body}
pub use Rattle.ipv6_packet.specs.Packets.{Fields, packet_at, packet_bytes}
pub use Rattle.ipv6_packet.specs.Reads.{fields_or, is_packet}
unfoldable pub use Rattle.ipv6_packet.specs.Reads.{fields_in}
pub use Rattle.ipv6_packet.specs.declared.fault.PacketFault.{PacketFault}
pub use Rattle.ipv6_packet.specs.declared.header.TheConstants.{HEADER}
pub use Rattle.icmp6.proofs.LawProofs.{message_is_bytes}
pub use Rattle.icmp6.specs.Grammar.{MessageFits}
pub use Rattle.icmp6.specs.Message.{echo_request, router_solicit}
pub use Rattle.icmp6.specs.declared.numbers.TheConstants.{ROUTER_HOP}
pub use Rattle.teredo_addr.proofs.AddressLaws.{embedded_is, server_is}
pub use Rattle.teredo_addr.proofs.LawProofs.{flags_tell, link_local_tells, teredo_tells}
pub use Rattle.teredo_addr.specs.Teredo.{all_routers, embedded, flags_of, has_cone, is_teredo, link_local, server_in, teredo_ip, unspecified}
pub use Rattle.indications.specs.Blocks.{indications_bytes}
pub use Rattle.indications.specs.Indications.{lead_at}
pub use Rattle.indications.specs.Leads.{origin_in}
pub use Rattle.indications.specs.declared.blocks.Auth.{Auth}
pub use Rattle.indications.specs.declared.blocks.Lead.{Lead}
pub use Rattle.indications.specs.declared.fault.LeadFault.{LeadFault}
pub use Rattle.bubble.proofs.LawProofs.{bubble_reads_back, message_is_carried, payload_is_spelled}
pub use Rattle.bubble.proofs.MadeInputs.{destination_is, destination_made, origin_is, packet_came, packet_is, source_is, source_made, zeros_are}
pub use Rattle.bubble.specs.Messages.{message_packet}
unfoldable pub use Rattle.bubble.specs.PacketsIn.{destination_in, packet_given, packet_in, source_in}
pub use Rattle.bubble.specs.Payloads.{Value, with_lead, with_packet}
unfoldable pub use Rattle.bubble.specs.Payloads.{payload_at}
pub use Rattle.bubble.specs.Reads.{is_ok_payload, value_or}
unfoldable pub use Rattle.bubble.specs.Reads.{is_payload, value_in}
pub use Rattle.bubble.specs.declared.bubbles.TheConstants.{BUBBLE_HOP}
pub use Rattle.teredo_node.proofs.FirstLines.{by_lines, first_where, skip, skip_one}
pub use Rattle.teredo_node.specs.Journal.{Entry, Input, Journal, Words, arrived, epoch, from_six, given as handed, ticked, with_entry}
pub use Rattle.teredo_node.specs.MadeInputs.{AreMadeInputs, IsMadeInput}
pub use Rattle.teredo_node.specs.Rows.{first_line}
pub use Rattle.teredo_node.specs.Sends.{releases, send}
pub use Rattle.teredo_node.specs.Step.{Send, Step, rest_of}
pub use Rattle.teredo_node.specs.Words.{nonce_from}
pub use Rattle.teredo_node.specs.declared.fate.Fate.{Fate}
pub use Rattle.peer_list.proofs.FromMentions.{IsBefore, all_later, holding_is_kept, kept, peer_is, peer_is_if, trust_is_kept, waiting_is_kept}
pub use Rattle.peer_list.proofs.LawProofs.{few_listed, first_waits}
pub use Rattle.peer_list.proofs.MadeMentions.{IsMadeMention, listed_peer, waiting_is}
pub use Rattle.peer_list.proofs.Rooms.{listed_has_room, not_known, room_by, room_of_none}
pub use Rattle.peer_list.specs.Few.{FindsRoom, HaveRoom}
pub use Rattle.peer_list.specs.Judged.{due_of, held_from, is_barred, is_ep, is_none, is_spent}
unfoldable pub use Rattle.peer_list.specs.Judged.{is_fresh, is_trusted_at}
pub use Rattle.peer_list.specs.Laws.{InOrder}
pub use Rattle.peer_list.specs.Listed.{has_room}
pub use Rattle.peer_list.specs.Mentions.{Mention, is_about}
pub use Rattle.peer_list.specs.Peers.{Peer, known, no_peer}
pub use Rattle.peer_list.specs.Waiting.{Listing}
pub use Rattle.peer_list.specs.declared.held.Held.{Held}
pub use Rattle.qualify.proofs.LawProofs.{turns, turns_at_start}
pub use Rattle.qualify.specs.Advertisements.{Heard, advert_lines, heard, is_one_of, is_usable_origin, phase_line}
unfoldable pub use Rattle.qualify.specs.Advertisements.{advert_row}
pub use Rattle.qualify.specs.Laws.{fresh, goes_on, tidings, turned}
pub use Rattle.qualify.specs.Qualification.{Qualification, address_after, address_told}
unfoldable pub use Rattle.qualify.specs.Qualification.{first_phase, qualification}
pub use Rattle.qualify.specs.Solicitations.{due_fate, expected, is_cone, is_due, is_qualified, server_asked, solicits_by}
unfoldable pub use Rattle.qualify.specs.Solicitations.{due_step, own_address, solicitation}
pub use Rattle.qualify.specs.Turns.{Turn, asks_cone, asks_restricted, asks_secondary, begins, differs, ends, flags_word, is_answered, is_changed as changes_turn, is_same, leaves, origin_given, qualifies, refreshes, renews, says_nothing, turn, turn_of}
pub use Rattle.qualify.specs.declared.limits.TheConstants.{SOLICITATIONS_MAX}
pub use Rattle.qualify.specs.declared.phase.Phase.{Phase}
pub use Rattle.qualify.specs.declared.phase.Phase.TheVariants.{Cone, OffLine, Qualified, Restricted, Secondary, Symmetric}
pub use Rattle.qualify.specs.declared.settings.Settings.{Settings}
pub use Rattle.client_rules.specs.Bearings.{bearing_of, held_of, mention, source_of}
unfoldable pub use Rattle.client_rules.specs.Bearings.{mentions}
pub use Rattle.client_rules.specs.Destinations.{EachSendGoesToEndpoint, GoesToEndpoint}
pub use Rattle.client_rules.specs.Epochs.{IsOwnTo, NoneQueued, QualifiedHasAddress, QualifiedStays, QueuedIsOwn, QueuesOwn, TrustedIsEmbedded, WaitingIsOwn, WaitingWasHandedIn, WasHandedIn, WasQueued}
pub use Rattle.client_rules.specs.Handed.{EachHanded, EachLate, HandingRule, HandsLate, HandsOver, HoldingRule, IsHanded, WasHeld, WasHeldIn, held, held_test, rule1, rule2, rule3}
pub use Rattle.client_rules.specs.Journals.{AreEntries, ClientFollows, IsJournal, client_entry, entry, first_peer, journal_since, last_moment, ticks}
unfoldable pub use Rattle.client_rules.specs.Journals.{client_in, client_out, client_tick}
pub use Rattle.client_rules.specs.LateSources.{EachLateIsForeign}
pub use Rattle.client_rules.specs.Laws.{FateOfReception, FateOfTransmission, JournalHasFew, JournalIsTried, NextMentions, ReceptionIsWarranted, TransmissionIsWarranted, TriesTouch}
pub use Rattle.client_rules.specs.MadeSends.{EachSendIsBytes, EachStandingIsMade, IsBytesSend, IsMadeClient}
pub use Rattle.client_rules.specs.Reception.{Seen, answers_bubble, datagram_lines, direct_lines, indirect_lines, is_plain, is_testable, is_under_test, packet_lines, reception_row, reception_step, server_lines, suspicious_lines, teredo_lines, tests_source, trusted_lines}
unfoldable pub use Rattle.client_rules.specs.Reception.{reception, reception_fate, seen}
pub use Rattle.client_rules.specs.Sendings.{EachSend, IsBubbleTo, IsCarriedTo, IsSending, answer, asks_as_cone, bubbles, carries, direct, indirect, released, solicits, tests, to_cone, to_trusted}
pub use Rattle.client_rules.specs.ShortSends.{EachSendIsShort, IsShortSend}
pub use Rattle.client_rules.specs.Standing.{Standing, known_in, standing_of}
unfoldable pub use Rattle.client_rules.specs.Standing.{standing_at}
pub use Rattle.client_rules.specs.TakenPlaces.{TakesPlace, WantsOnlyQualified, holds, lists, to_hold, to_list}
pub use Rattle.client_rules.specs.TickWarrants.{AsksAgain, IsAtItsEnd, IsPeersTurn, TickIsWarranted, TickedOnlyIf}
pub use Rattle.client_rules.specs.Ticks.{Due, asks, peer_due, peer_of_due, tick, tries, tries_peer, try_fate}
unfoldable pub use Rattle.client_rules.specs.Ticks.{due_at}
pub use Rattle.client_rules.specs.Told.{EachAddressIsTold, IsToldAddress, sets_address}
pub use Rattle.client_rules.specs.Transmission.{Given, destination_lines, host_lines, queues, transmission_row, transmission_step}
unfoldable pub use Rattle.client_rules.specs.Transmission.{given as given_to, transmission}
pub use Rattle.client_rules.specs.Tries.{both_bubbles, direct_bubble, test_bytes, tries_by}
unfoldable pub use Rattle.client_rules.specs.Tries.{test, try_sends}
pub use Rattle.client_rules.specs.Warrants.{GoesLater, GoesOut, IsAdvert, IsDirect, IsEmbedded, IsForClient, IsIndirect, IsSound, IsSuspect, IsTested, IsTrusted, IsUnderTest, ReceivedOnlyIf, SentOnlyIf}
pub use Rattle.client_rules.specs.declared.limits.TheConstants.{TEST_ID, TEST_SEQ}
