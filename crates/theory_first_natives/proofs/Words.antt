-- Where the words of this crate's proofs are defined: its files name them from here. `.ci/words` keeps this file.
pub use Rattle.byteorder.specs.Endian.{big_bytes}
pub use Rattle.std.proofs.Common.{Bool, Contains, List, None, Ok, Option, Some, [], ap, append-nil, arith, cond, drop, false, filter, find, inl, inr, length, map, not, refl, subst, suc, sym, true, zero, ℕ, ◌&&◌, ◌++◌, ◌+◌, ◌<◌, ◌==◌, ◌||◌, ◌∙◌, ◌∷◌, ◌≡◌, ◌≤◌, ◌⊎◌}
pub use Rattle.std.proofs.lemmas.Bool.{and_from, and_left, and_parts, and_right, false_from_ne_true, false≢true, lt-ltb, not_from_true, or_left, or_right}
pub use Rattle.std.proofs.lemmas.Bool.Decides.{Decides-eqb, nat_tests}
pub use Rattle.std.proofs.lemmas.List.{take_rest}
pub use Rattle.std.proofs.lemmas.List.Elements.{Contains-push}
pub use Rattle.std.specs.Cmp.Lexicographic.{pointwise, pointwise_decides}
pub use Rattle.std.specs.List.{AllByRecursion, list_any}
pub use Rattle.std.specs.Option.{option_or}
pub use Rattle.std.specs.Prelude.{filter_map, is_some, nat_eq, nat_le, nat_lt, option_and_then, option_to_list, slice_get, unwrap_or, ◌^◌, ◌≢◌}
pub use Rattle.td_base.specs.Bytes.{IsBytes}
pub use Rattle.td_base.specs.Ep.{IsEp, same_ep, same_ep-self, server_ep}
pub use Rattle.td_base.specs.Ip4.{same_ip, same_ip-self, same_ip-true}
pub use Rattle.td_base.specs.Ip6.{IsIp6, same_ip6, same_ip6-self, same_ip6-true}
pub use Rattle.td_base.specs.Reach.{is_global, is_global6, is_link_local, is_usable}
pub use Rattle.td_base.specs.declared.endpoint.Ep.{Ep}
pub use Rattle.td_base.specs.declared.ipv4.Ip4.{Ip4}
pub use Rattle.td_base.specs.declared.ipv6.Ip6.{Ip6}
pub use Rattle.td_base.specs.declared.reach.Policy.TheVariants.{Strict}
pub use Rattle.td_base.specs.declared.span.Span.{Span}
pub use Rattle.ipv6_packet.proofs.LawProofs.{packet_is_bytes, packet_reads_back}
pub use Rattle.ipv6_packet.specs.Laws.{ReadsPacket}
pub use Rattle.ipv6_packet.specs.Packets.{Fields, IsPacket, packet_at, packet_bytes}
pub use Rattle.ipv6_packet.specs.Reads.{fields_in, is_packet}
unfoldable pub use Rattle.ipv6_packet.specs.Reads.{is_big}
pub use Rattle.ipv6_packet.specs.declared.header.TheConstants.{HEADER, NEXT_NONE, PACKET_MAX}
pub use Rattle.icmp6.proofs.FoundLaws.{read_found}
pub use Rattle.icmp6.specs.Grammar.{MessageBytes}
unfoldable pub use Rattle.icmp6.specs.Layout.{message_bytes}
pub use Rattle.icmp6.specs.Message.{Message, echo_reply, echo_request, other, router_advert, router_solicit}
pub use Rattle.teredo_addr.proofs.LawProofs.{link_local_tells}
unfoldable pub use Rattle.teredo_addr.specs.Reaching.{is_reachable}
pub use Rattle.teredo_addr.specs.Teredo.{embedded, has_cone, is_teredo, server_in, unspecified}
pub use Rattle.teredo_addr.specs.declared.local.TheConstants.{ALL_ROUTERS}
unfoldable pub use Rattle.indications.specs.Leads.{is_confirmed, is_keyed}
pub use Rattle.bubble.proofs.LawProofs.{bubble_reads_back, message_is_carried, packet_is_payload}
pub use Rattle.bubble.specs.Bubbles.{bubble_bytes, bubble_of}
unfoldable pub use Rattle.bubble.specs.Bubbles.{is_bubble}
pub use Rattle.bubble.specs.Laws.{CarriesMessage, ReadsBubble, ReadsPayload}
pub use Rattle.bubble.specs.Messages.{is_echo_reply, message_in, message_packet}
unfoldable pub use Rattle.bubble.specs.PacketsIn.{destination_in, packet_given, packet_in, source_in}
pub use Rattle.bubble.specs.Payloads.{Value, value_written}
pub use Rattle.bubble.specs.Reads.{is_payload, value_in}
pub use Rattle.bubble.specs.declared.bubbles.TheConstants.{BUBBLE_HOP}
pub use Rattle.teredo_node.specs.Journal.{Entry, Input, Journal, Words, arrived, from_six, given, is_changed, ticked, with_entry}
pub use Rattle.teredo_node.specs.Rows.{first_line}
pub use Rattle.teredo_node.specs.Sends.{releases, send}
pub use Rattle.teredo_node.specs.Step.{Send, Step, just, rest_of}
pub use Rattle.teredo_node.specs.Words.{drawn_words, nonce_from, nonce_of_words}
pub use Rattle.teredo_node.specs.declared.fate.Fate.{Fate}
pub use Rattle.server_core.proofs.LawProofs.{forwarded_reads_back}
pub use Rattle.server_core.specs.Conditions.{is_data, is_own, is_solicit, server_link_local}
unfoldable pub use Rattle.server_core.specs.Conditions.{is_for_client, is_for_server, is_forged, is_looped, is_not_ours, is_other_kind, is_solicitation, is_unusable}
pub use Rattle.server_core.specs.Outputs.{forwarded}
pub use Rattle.server_core.specs.RuleWarrants.{GoesToSix}
pub use Rattle.server_core.specs.Rules.{ServerSeen, last_line, server_datagram_lines, server_destination_lines, server_packet_lines, server_seen}
unfoldable pub use Rattle.server_core.specs.Rules.{rule_of}
pub use Rattle.server_core.specs.Server.{by_payload, step_of}
unfoldable pub use Rattle.server_core.specs.Server.{server_row}
pub use Rattle.server_core.specs.declared.rules.Rule.TheVariants.{Six}
pub use Rattle.server_core.specs.declared.server.ServerSettings.{ServerSettings}
pub use Rattle.peer_list.proofs.LawProofs.{listed_are, listed_is_known, one_entry, unlisted}
pub use Rattle.peer_list.proofs.Lists.{other_way}
pub use Rattle.peer_list.specs.Judged.{held_from, is_barred, is_ep, is_full, is_none, is_spent, is_within}
unfoldable pub use Rattle.peer_list.specs.Judged.{holds_most, is_fresh, is_trusted_at}
pub use Rattle.peer_list.specs.Laws.{after, peer_if}
pub use Rattle.peer_list.specs.Listed.{is_recent_touch, is_younger, with_peer}
unfoldable pub use Rattle.peer_list.specs.Listed.{has_room, is_listed, listed, touched}
pub use Rattle.peer_list.specs.Mentions.{Mention, is_about, is_peer, is_touch_of}
pub use Rattle.peer_list.specs.Peers.{Peer, known, no_peer, peer_at}
pub use Rattle.peer_list.specs.declared.held.Held.{Held}
pub use Rattle.peer_list.specs.declared.limits.TheConstants.{FRESH_MS, HELD_MAX, LISTED_MS, PEERS_MAX}
pub use Rattle.qualify.specs.Advertisements.{advert_row}
pub use Rattle.qualify.specs.Qualification.{qualification}
pub use Rattle.qualify.specs.Solicitations.{own_address}
pub use Rattle.qualify.specs.Turns.{says_nothing, turn}
pub use Rattle.qualify.specs.declared.settings.Settings.{Settings}
pub use Rattle.client_rules.proofs.LawProofs.{fate_of_reception, next_mentions}
pub use Rattle.client_rules.specs.Bearings.{bearing_of, held_of, mention, mentions, source_of}
pub use Rattle.client_rules.specs.Journals.{client_out, entry}
unfoldable pub use Rattle.client_rules.specs.Journals.{client_in}
pub use Rattle.client_rules.specs.Reception.{Seen, is_from_server, is_reply_to, reception_fate, reception_row, reception_step, seen_of, tests_source}
unfoldable pub use Rattle.client_rules.specs.Reception.{reception}
pub use Rattle.client_rules.specs.Standing.{Standing, standing_of}
unfoldable pub use Rattle.client_rules.specs.Standing.{standing_at}
pub use Rattle.client_rules.specs.Transmission.{queues}
pub use Rattle.client_rules.specs.Tries.{test_bytes, tries_by}
unfoldable pub use Rattle.client_rules.specs.Tries.{test, try_sends}
pub use Rattle.client_rules.specs.Warrants.{GoesLater, GoesOut, IsForClient, IsSuspect, IsTested, IsTrusted}
pub use Rattle.client_rules.specs.declared.limits.TheConstants.{TEST_ID, TEST_SEQ}
pub use Rattle.relay_rules.proofs.ForeignSends.{read_as}
pub use Rattle.relay_rules.specs.Bearings.{relay_bearing_of, relay_mention}
unfoldable pub use Rattle.relay_rules.specs.Bearings.{relay_mentions}
pub use Rattle.relay_rules.specs.Journals.{wordless_entry}
unfoldable pub use Rattle.relay_rules.specs.Journals.{relay_in, relay_six}
pub use Rattle.relay_rules.specs.Reception.{RelaySeen, relay_reception_row, relay_reception_step, relay_seen_of}
unfoldable pub use Rattle.relay_rules.specs.Reception.{relay_reception, relay_seen}
pub use Rattle.relay_rules.specs.Standing.{RelaySettings, RelayStanding, relay_standing_of}
unfoldable pub use Rattle.relay_rules.specs.Standing.{relay_standing_at}
pub use Rattle.relay_rules.specs.Transmission.{RelayGiven, relay_given_of, relay_queues, relay_transmission_row, relay_transmission_step}
unfoldable pub use Rattle.relay_rules.specs.Transmission.{bubble_to, relay_given, relay_transmission}
pub use Rattle.relay_rules.specs.Warrants.{GoesToTrusted, IsOfPeer, IsPeerBubble, IsServed, RelayGoesLater, RelayGoesOut, RelayGoesToCone}
pub use Rattle.native_host.proofs.LawProofs.{each_is_reply}
pub use Rattle.native_host.proofs.MadeReplies.{body_bytes, message_is}
pub use Rattle.native_host.specs.NativeSends.{IsReply}
pub use Rattle.native_host.specs.Natives.{Native, echo_of, echoed, native_row, sent_by}
unfoldable pub use Rattle.native_host.specs.Natives.{native_in, native_out}
pub use Rattle.native_host.specs.declared.limits.TheConstants.{HOST_HOP}
pub use Rattle.topology.proofs.LawProofs.{apart as addresses_are_apart, each_node}
pub use Rattle.topology.proofs.Lists.{all_at, any_right}
pub use Rattle.topology.specs.NodeRules.{IsNativeNode, IsRelayNode, IsServerNode, has_address}
pub use Rattle.topology.specs.Rows.{TopologyState}
pub use Rattle.topology.specs.Rules.{AreDistinct, IsTopology}
pub use Rattle.topology.specs.Topology.{client_at, node_at, own_ep, side_at}
pub use Rattle.topology.specs.declared.client_node.ClientNode.{ClientNode}
pub use Rattle.topology.specs.declared.native_node.NativeNode.{NativeNode}
pub use Rattle.topology.specs.declared.node.Node.{Node}
pub use Rattle.topology.specs.declared.node.Node.TheVariants.{Client as client, Nat as nat, Native as native, Relay as relay, Server as server}
pub use Rattle.topology.specs.declared.relay_node.RelayNode.{RelayNode}
pub use Rattle.topology.specs.declared.server_node.ServerNode.{ServerNode}
pub use Rattle.history.specs.Full.{Full, Item, Made, bytes_of, item_in, items_of, sent, six, udp, wire}
pub use Rattle.legal.proofs.LawProofs.{deliveries, is_reached as each_is_reached, wire_is_made}
pub use Rattle.legal.proofs.RouteEnds.{same_end}
pub use Rattle.legal.specs.Deliveries.{Delivery, IsReached, to_nobody, to_node}
pub use Rattle.legal.specs.Emit.{entry_of, handed_by, is_at_place, made_outright, native_made, outright, part_of, reaches, route, six_made}
pub use Rattle.legal.specs.Lab.{Lab}
pub use Rattle.legal.specs.Legal.{Follows, Grown}
pub use Rattle.legal.specs.MadeWire.{IsMadeItem}
pub use Rattle.legal.specs.Next.{no_ep}
pub use Rattle.legal.specs.Past.{armed, journal, now, words}
pub use Rattle.legal.specs.Routes.{IsLetIn}
pub use Rattle.legal.specs.Settings.{relay_settings, served, server_settings}
pub use Rattle.theory_settled.proofs.Earlier.{earlier}
pub use Rattle.theory_settled.proofs.ItsNodes.{primary_has, secondary_has}
pub use Rattle.theory_settled.specs.Clients.{asks_at, client_address}
pub use Rattle.theory_origins.specs.Sources.{outermost}
pub use Rattle.theory_ways.proofs.LawProofs.{enters_by_its_way, is_let_in}
pub use Rattle.theory_ways.specs.SettledAlong.{IsSettledAlong}
pub use Rattle.theory_ways.specs.Ways.{IsChained, has_symmetric, is_all_cone, nat_of, nats_of}
pub use Rattle.theory_first_packets.proofs.Deliveries.{Did, Handing}
pub use Rattle.theory_first_packets.proofs.HandedIn.{IsHandedIn, sound_first}
pub use Rattle.theory_first_packets.proofs.Journals.{at_same_moment, other_journal}
pub use Rattle.theory_first_packets.proofs.passing.Addresses.{nat_has, two_kinds}
pub use Rattle.theory_first_packets.proofs.passing.AllSent.{DoesSend, all_leaves}
pub use Rattle.theory_first_packets.proofs.passing.Arrivals.{Arrival, At, arrival, at_most_last, bubble_small, no_more, one_more}
pub use Rattle.theory_first_packets.proofs.passing.Elsewhere.{from_no_server, server_elsewhere}
pub use Rattle.theory_first_packets.proofs.passing.Ends.{IsEnd, Settles, is_end, usable_at, way_of_server}
pub use Rattle.theory_first_packets.proofs.passing.OnWay.{IsOnWay}
pub use Rattle.theory_first_packets.proofs.passing.OwnAddress.{IsHere, address_is, address_renewed, address_stays, is_here}
pub use Rattle.theory_first_packets.proofs.passing.Sent.{IsElsewhere}
pub use Rattle.theory_first_packets.proofs.passing.Sides.{ComesIn, setup}
pub use Rattle.theory_first_packets.proofs.passing.Ways.{IsCalmNext, LeavesNats}
pub use Rattle.theory_first_packets.proofs.passing.WaysIn.{asked_along, cone_along, enters_along, still_in}
pub use Rattle.theory_first_packets.proofs.schedule.Brought.{some_so, within_longer}
pub use Rattle.theory_first_packets.proofs.schedule.Counted.{AreOpen, is_open, one_open, with_next, without_last}
pub use Rattle.theory_first_packets.proofs.tables.AtServer.{MayTell}
pub use Rattle.theory_first_packets.proofs.tables.GivenPacket.{entry_given, given_here, waits_for_it}
pub use Rattle.theory_first_packets.proofs.tables.IndirectBubble.{MayAnswer, answers_it}
pub use Rattle.theory_first_packets.proofs.tables.Known.{Touches, known_after, listed_after, not_full, not_spent, seen_by_touch, trusted_after, trusted_before, untried}
pub use Rattle.theory_first_packets.proofs.tables.Lists.{each_so, last_there, one_longer}
pub use Rattle.theory_first_packets.proofs.tables.Received.{entry_here}
pub use Rattle.theory_first_packets.specs.AlongWays.{OfEachSchedule}
pub use Rattle.theory_first_packets.specs.FirstPacket.{GoesBetween, HostHandsIn}
pub use Rattle.theory_first_packets.specs.MayMeet.{known_by}
pub use Rattle.theory_first_packets.specs.Schedules.{AreFresh, DeliversFresh, HasNoFault, IsComplete, SomeIs, is_fault}
pub use Rattle.theory_first_natives.specs.FromNative.{ArrivesLate, FirstFromNativeArrivesAlong, HasArrivedLate}
pub use Rattle.theory_first_natives.specs.MayMeetThroughRelay.{MayAskClient, MayMeetThroughRelay, MayTest, NewMayMeetThroughRelay, known_by_relay, must_ask, trusts_client}
pub use Rattle.theory_first_natives.specs.NextFromNative.{GivesInTime, GivesToHost, GivesWithin, IsNextFromNative, NextFromNativeArrivesAlong, most_deliveries, most_from_native}
pub use Rattle.theory_first_natives.specs.NextToNative.{IsNextToNative, MayReachNative, NextToNativeArrivesAlong}
pub use Rattle.theory_first_natives.specs.Relayed.{AreNewToEachOther}
pub use Rattle.theory_first_natives.specs.Throughout.{HistoriesCarryFromNatives, HistoriesCarryToNatives}
pub use Rattle.theory_first_natives.specs.ToNative.{ComesWithin, FirstToNativeArrivesAlong, GetsToNative, HandsAnswer, HasAnswered, ReachesNative, is_answered, most_to_native}
