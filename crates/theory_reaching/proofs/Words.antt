-- Where the words of this crate's proofs are defined: its files name them from here. `.ci/words` keeps this file.
pub use Rattle.std.proofs.Common.{Bool, Contains, Err, List, None, Ok, Option, Result, Some, [], ap, append_assoc, arith, cond, eq-eqb, false, inl, inr, length, map, not, refl, subst, suc, sym, true, zero, ℕ, ◌&&◌, ◌++◌, ◌+◌, ◌-◌, ◌<◌, ◌==◌, ◌||◌, ◌∙◌, ◌∷◌, ◌≡◌, ◌≤◌, ◌⊎◌}
pub use Rattle.std.proofs.lemmas.Bool.{and_cases, and_from, and_left, and_parts, and_right, eqb-true, false_from_ne_true, false≢true, not_from_true, or_from, or_left, or_parts, or_right}
pub use Rattle.std.proofs.lemmas.Bool.Decides.{nat_tests}
pub use Rattle.std.proofs.lemmas.List.{length-append, take_rest}
pub use Rattle.std.proofs.lemmas.List.Elements.{All-cons, All-contains, All-contains_itself, All-from_recursion, filter_agree}
pub use Rattle.std.proofs.lemmas.Map.Keys.{IsDistinct-head, IsDistinct-tail}
pub use Rattle.std.proofs.lemmas.Option.{slice_get_cases, slice_get_within}
pub use Rattle.std.specs.List.{AllByRecursion, IsDistinct, list_any}
pub use Rattle.std.specs.Option.{option_or}
pub use Rattle.std.specs.Prelude.{All, drop, filter, filter_map, find, get_or, if◌then◌else◌, is_some, nat_le, nat_lt, option_and_then, option_map, option_to_list, slice_get, take, unwrap_or}
pub use Rattle.td_base.specs.Bytes.{IsBytes}
pub use Rattle.td_base.specs.Ep.{IsEp, same_ep, same_ep-self, same_ep-true, server_ep}
pub use Rattle.td_base.specs.Ip4.{IsIp4, same_ip, same_ip-self}
pub use Rattle.td_base.specs.Ip6.{IsIp6, same_ip6, same_ip6-self, same_ip6-true}
pub use Rattle.td_base.specs.Reach.{is_link_local, is_usable}
unfoldable pub use Rattle.td_base.specs.Reach.{is_global6}
pub use Rattle.td_base.specs.declared.datagram.TheConstants.{DATAGRAM_MAX}
pub use Rattle.td_base.specs.declared.endpoint.Ep.{Ep}
pub use Rattle.td_base.specs.declared.ipv4.Ip4.{Ip4}
pub use Rattle.td_base.specs.declared.ipv6.Ip6.{Ip6}
pub use Rattle.td_base.specs.declared.reach.Policy.{Policy}
pub use Rattle.td_base.specs.declared.reach.Policy.TheVariants.{Strict}
pub use Rattle.td_base.specs.declared.span.Span.{Span}
pub use Rattle.ipv6_packet.proofs.LawProofs.{packet_is_bytes, packet_is_spelled, packet_reads_back}
pub use Rattle.ipv6_packet.specs.Packets.{Fields, packet_at}
unfoldable pub use Rattle.ipv6_packet.specs.Packets.{packet_bytes}
pub use Rattle.ipv6_packet.specs.Reads.{fields_in, is_packet}
unfoldable pub use Rattle.ipv6_packet.specs.Reads.{is_big}
pub use Rattle.ipv6_packet.specs.declared.fault.PacketFault.{PacketFault}
pub use Rattle.ipv6_packet.specs.declared.header.TheConstants.{HEADER, PACKET_MAX}
pub use Rattle.teredo_addr.proofs.LawProofs.{link_local_tells}
pub use Rattle.teredo_addr.specs.Reaching.{is_reachable}
pub use Rattle.teredo_addr.specs.Teredo.{embedded, has_cone, is_teredo, server_in, unspecified}
pub use Rattle.teredo_addr.specs.declared.local.TheConstants.{ALL_ROUTERS}
unfoldable pub use Rattle.indications.specs.Indications.{auth_at, head_at, lead_at, origin_at}
pub use Rattle.indications.specs.Leads.{nonce_of, origin_in}
unfoldable pub use Rattle.indications.specs.Leads.{is_confirmed, is_keyed}
pub use Rattle.indications.specs.declared.blocks.Lead.{Lead}
pub use Rattle.indications.specs.declared.fault.LeadFault.{LeadFault}
pub use Rattle.indications.specs.declared.fault.LeadFault.TheVariants.{Cut}
pub use Rattle.bubble.proofs.LawProofs.{bubble_reads_back, packet_is_payload}
pub use Rattle.bubble.specs.Bubbles.{bubble_bytes, bubble_of, is_bubble}
pub use Rattle.bubble.specs.Laws.{CarriesMessage, ReadsBubble, ReadsPayload}
pub use Rattle.bubble.specs.Messages.{is_advert, is_echo_reply, message_in}
pub use Rattle.bubble.specs.PacketsIn.{packet_given, packet_in}
unfoldable pub use Rattle.bubble.specs.PacketsIn.{destination_in, source_in}
pub use Rattle.bubble.specs.Payloads.{Value, value_written, with_lead, with_packet}
unfoldable pub use Rattle.bubble.specs.Payloads.{payload_at}
pub use Rattle.bubble.specs.Reads.{is_payload, value_or}
unfoldable pub use Rattle.bubble.specs.Reads.{value_in}
pub use Rattle.teredo_node.proofs.FirstLines.{Each, by_lines, first_of_each, first_where, skip}
pub use Rattle.teredo_node.specs.Fate.{is_drop}
pub use Rattle.teredo_node.specs.Journal.{Entry, Input, Journal, Words, arrived, from_six, is_changed, ticked, with_entry}
pub use Rattle.teredo_node.specs.Rows.{first_line}
pub use Rattle.teredo_node.specs.Sends.{has_any, releases, send}
pub use Rattle.teredo_node.specs.Step.{Send, Step, just, rest_of}
pub use Rattle.teredo_node.specs.Words.{drawn_words, nonce_from, nonce_of_words}
pub use Rattle.teredo_node.specs.declared.fate.Fate.{Fate}
pub use Rattle.server_core.proofs.LawProofs.{advert_reads_back, forwarded_reads_back, rule_is_warranted}
pub use Rattle.server_core.proofs.Outgoing.{of_read}
pub use Rattle.server_core.specs.Conditions.{is_data, is_own, is_solicit, server_link_local}
unfoldable pub use Rattle.server_core.specs.Conditions.{is_for_client, is_for_server, is_forged, is_looped, is_not_ours, is_other_kind, is_solicitation, is_unusable}
pub use Rattle.server_core.specs.Outgoing.{IsOutgoing, adverts, goes_to_other, goes_to_own}
pub use Rattle.server_core.specs.Outputs.{forwarded}
pub use Rattle.server_core.specs.RuleWarrants.{GoesToSix, RuledOnlyIf}
pub use Rattle.server_core.specs.Rules.{rule_of, server_seen}
pub use Rattle.server_core.specs.Server.{by_payload, step_of}
pub use Rattle.server_core.specs.declared.rules.Rule.{Rule}
pub use Rattle.server_core.specs.declared.rules.Rule.TheVariants.{Advert, Dropped, Forward, ForwardOrigin, Six}
pub use Rattle.server_core.specs.declared.server.ServerSettings.{ServerSettings}
pub use Rattle.peer_list.proofs.FromMentions.{peer_is, peer_is_if}
pub use Rattle.peer_list.proofs.LawProofs.{first_is_earliest, lasts, listed_is_known, one_entry, unlisted as unlisted_is_unknown}
pub use Rattle.peer_list.proofs.Lists.{other_way, touched_once}
pub use Rattle.peer_list.proofs.Rooms.{not_listed}
pub use Rattle.peer_list.proofs.TableLemmas.{young_now}
pub use Rattle.peer_list.specs.Judged.{held_from, holds_most, is_ep, is_none, is_within}
unfoldable pub use Rattle.peer_list.specs.Judged.{due_of, is_barred, is_fresh, is_spent, is_trusted_at}
pub use Rattle.peer_list.specs.Laws.{IsFirstBy, peer_if, tries_after}
pub use Rattle.peer_list.specs.Listed.{is_recent_touch, is_younger, with_peer}
unfoldable pub use Rattle.peer_list.specs.Listed.{has_room, is_listed, listed, touched}
pub use Rattle.peer_list.specs.Mentions.{Bearing, Mention, is_about, is_peer, is_touch_of, no_bearing}
pub use Rattle.peer_list.specs.Overdue.{due_by}
pub use Rattle.peer_list.specs.Peers.{Peer, known, no_peer}
unfoldable pub use Rattle.peer_list.specs.Peers.{peer_at}
pub use Rattle.peer_list.specs.Waiting.{Listing, first_due}
pub use Rattle.peer_list.specs.declared.limits.TheConstants.{FRESH_MS, LISTED_MS, PEERS_MAX, TRIES_MAX, TRY_GAP_MS}
pub use Rattle.qualify.proofs.LawProofs.{keeps_still}
pub use Rattle.qualify.specs.Advertisements.{Heard, advert_lines, heard, is_one_of, phase_line}
unfoldable pub use Rattle.qualify.specs.Advertisements.{advert_row}
pub use Rattle.qualify.specs.Qualification.{Qualification, qualification}
pub use Rattle.qualify.specs.Solicitations.{is_qualified}
unfoldable pub use Rattle.qualify.specs.Solicitations.{own_address}
pub use Rattle.qualify.specs.Turns.{says_nothing, turn}
pub use Rattle.qualify.specs.declared.phase.Phase.{Phase}
pub use Rattle.qualify.specs.declared.settings.Settings.{Settings}
pub use Rattle.client_rules.proofs.Handed.{trusted_at}
pub use Rattle.client_rules.proofs.LawProofs.{fate_of_transmission, journal_has_few, next_mentions, qualified_has_address, transmission_is_warranted as client_transmission_is_warranted, trusted_is_embedded, waiting_is_own}
pub use Rattle.client_rules.proofs.MadeWaiting.{journal_is}
pub use Rattle.client_rules.specs.Bearings.{bearing_of, mention}
unfoldable pub use Rattle.client_rules.specs.Bearings.{mentions}
pub use Rattle.client_rules.specs.Epochs.{IsOwnTo}
pub use Rattle.client_rules.specs.Journals.{IsJournal, client_entry, entry}
unfoldable pub use Rattle.client_rules.specs.Journals.{client_due, client_in, client_out}
pub use Rattle.client_rules.specs.Reception.{Seen, datagram_lines, direct_lines, indirect_lines, is_plain, is_testable, packet_lines, reception_row, reception_step, seen_of, server_lines}
unfoldable pub use Rattle.client_rules.specs.Reception.{is_from_server, reception_fate, seen}
pub use Rattle.client_rules.specs.Standing.{Standing, known_in, standing_of}
unfoldable pub use Rattle.client_rules.specs.Standing.{standing_at}
pub use Rattle.client_rules.specs.Ticks.{sooner}
unfoldable pub use Rattle.client_rules.specs.Ticks.{next_due}
pub use Rattle.client_rules.specs.Transmission.{Given, destination_lines, given_of, host_lines, queues, transmission_row, transmission_step}
pub use Rattle.client_rules.specs.Tries.{both_bubbles, direct_bubble, indirect_bubble, test_bytes, tries_by, try_words}
unfoldable pub use Rattle.client_rules.specs.Tries.{try_sends}
pub use Rattle.client_rules.specs.Warrants.{SentOnlyIf}
pub use Rattle.relay_rules.proofs.ForeignSends.{read_as}
pub use Rattle.relay_rules.proofs.LawProofs.{cone_is_quiet, each_send, fate_of_transmission as relay_fate_of_transmission, transmission_is_warranted as relay_transmission_is_warranted}
pub use Rattle.relay_rules.specs.Bearings.{relay_bearing_of, relay_mention}
unfoldable pub use Rattle.relay_rules.specs.Bearings.{relay_mentions}
pub use Rattle.relay_rules.specs.Journals.{IsRelayJournal, relay_entry, relay_first_peer, relay_ticks, wordless_entry}
unfoldable pub use Rattle.relay_rules.specs.Journals.{relay_due, relay_in, relay_six, relay_tick}
pub use Rattle.relay_rules.specs.Reception.{RelaySeen, reception_lines, relay_reception_row, relay_reception_step, relay_seen_of}
unfoldable pub use Rattle.relay_rules.specs.Reception.{relay_reception, relay_seen}
pub use Rattle.relay_rules.specs.Sendings.{IsRelaySending, bubbles, carries}
pub use Rattle.relay_rules.specs.Standing.{RelaySettings, RelayStanding, relay_known_in, relay_standing_of}
unfoldable pub use Rattle.relay_rules.specs.Standing.{relay_standing_at}
pub use Rattle.relay_rules.specs.Ticks.{relay_tries_peer}
pub use Rattle.relay_rules.specs.Transmission.{RelayGiven, relay_destination_lines, relay_given_of, relay_packet_lines, relay_queues, relay_transmission_row, relay_transmission_step}
unfoldable pub use Rattle.relay_rules.specs.Transmission.{bubble_to, relay_given, relay_transmission}
pub use Rattle.relay_rules.specs.Warrants.{RelayGoesLater, RelayGoesToCone, RelaySentOnlyIf}
pub use Rattle.nat_kinds.proofs.LawProofs.{counting_datagram_holds_its_port}
pub use Rattle.nat_kinds.specs.Answer.{live_after, nat_answer, port_for}
pub use Rattle.nat_kinds.specs.Entering.{lets_in}
pub use Rattle.nat_kinds.specs.History.{NatEntry, Out, counting, is_young}
pub use Rattle.nat_kinds.specs.Kinds.{is_symmetric}
pub use Rattle.nat_kinds.specs.Laws.{Asked}
pub use Rattle.nat_kinds.specs.Mappings.{latest, live_port}
pub use Rattle.nat_kinds.specs.declared.kind.NatKind.{NatKind}
pub use Rattle.nat_kinds.specs.declared.kind.NatKind.TheVariants.{Cone, Port, Restricted, Symmetric}
pub use Rattle.nat_kinds.specs.declared.outgoing.Outward.{Outward}
pub use Rattle.nat_kinds.specs.declared.refusal.NatRefusal.{NatRefusal}
pub use Rattle.nat_kinds.specs.declared.refusal.NatRefusal.TheVariants.{Hairpin}
pub use Rattle.nat_kinds.specs.declared.settings.NatSettings.{NatSettings}
pub use Rattle.native_host.specs.Natives.{Native, native_in, sent_by}
unfoldable pub use Rattle.native_host.specs.Natives.{native_out}
pub use Rattle.topology.proofs.LawProofs.{each_node}
pub use Rattle.topology.proofs.Lists.{all_joined, all_right}
pub use Rattle.topology.specs.Chains.{Behind, Crossing, Inward, NatPasts, Passing, after_passing, chain_in, comes_to, crossing, is_inner, last_nat, nat_set_up, nats_from, outer_in, outs_at, passing, shut_at, way_out}
pub use Rattle.topology.specs.NodeRules.{IsNativeNode, IsRelayNode, has_address}
pub use Rattle.topology.specs.Rows.{TopologyState}
pub use Rattle.topology.specs.Rules.{IsTopology}
pub use Rattle.topology.specs.Topology.{as_client, as_relay, client_at, first_passing, is_at, is_behind, node_at, nodes, own_ep, relay_at, side_at}
pub use Rattle.topology.specs.declared.client_node.ClientNode.{ClientNode}
pub use Rattle.topology.specs.declared.native_node.NativeNode.{NativeNode}
pub use Rattle.topology.specs.declared.node.Node.{Node}
pub use Rattle.topology.specs.declared.node.Node.TheVariants.{Client as client, Nat as nat, Native as native, Relay as relay, Server as server}
pub use Rattle.topology.specs.declared.relay_node.RelayNode.{RelayNode}
pub use Rattle.topology.specs.declared.server_node.ServerNode.{ServerNode}
pub use Rattle.events.specs.Events.{IsEvent}
pub use Rattle.events.specs.declared.event.Event.{Event}
pub use Rattle.events.specs.declared.event.TheConstants.{ENTRY_NUMBER_MAX}
pub use Rattle.events.specs.declared.verb.Verb.{Verb}
pub use Rattle.history.specs.Full.{Full, Item, Made, item_in, items_of, lost, sent, six, udp, wire}
pub use Rattle.history.specs.declared.act.Act.{Act}
pub use Rattle.legal.proofs.LawProofs.{asked_for, client_journals, deliveries, frame, is_reached as node_is_reached, items_are_made, keeps_to_its_way, kinds as record_kinds, later as records_are_later, makes_its_own, of_its_event, of_node, relay_journals, routes, wire_is_made}
pub use Rattle.legal.proofs.MadeInputs.{client_made, entry_input}
pub use Rattle.legal.proofs.NatPasts.{set_up_past}
pub use Rattle.legal.proofs.RouteEnds.{is_reached, same_end}
pub use Rattle.legal.specs.Actors.{IsActOf}
pub use Rattle.legal.specs.Deliveries.{Delivery, IsMissed, IsReached, done_with, to_node}
pub use Rattle.legal.specs.Emit.{Route, astray, by_way, closed, crossing_unless, entry_of, from_outside, handed_by, is_at_place, made_outright, marked, native_made, native_packet, or_loss, outright, part_of, reach, reach_node, reaches, route, route_in, sendings, six_made, tick_due}
pub use Rattle.legal.specs.Frame.{KeepsToItsWay, way_by, way_from}
pub use Rattle.legal.specs.Honest.{is_honest_event}
pub use Rattle.legal.specs.Kinds.{Delivers, Kind, Quiet, asked_event, handed, put, reached, ticks}
pub use Rattle.legal.specs.Lab.{Lab}
pub use Rattle.legal.specs.Laws.{IsAskedFor, is_advance, others}
pub use Rattle.legal.specs.Legal.{Follows, GoesOn, Grown}
pub use Rattle.legal.specs.MadeWire.{IsMadeItem, IsPacketItem}
pub use Rattle.legal.specs.Makers.{Forges, Leaves, MadeBy, by_client, by_native, by_relay, by_server, from_nowhere, strange, to_six}
pub use Rattle.legal.specs.Next.{DueNode, Numbered, address_at, address_of, advanced, blank, delivers_item, delivers_or, delivers_to, dst_of, input_of, least_due, next_of, no_ep, numbered, plain}
pub use Rattle.legal.specs.OfNode.{OfNode, acts, rests}
pub use Rattle.legal.specs.OwnSends.{AreOfSends, AreOfSendsAnd}
pub use Rattle.legal.specs.Past.{armed, armed_after, arms, began, first_open, first_undelivered, has_more, has_sends, is_node, is_number, is_restart, journal, nat_history, nat_pasts, new_journal, now, was_delivered, with_entries, words}
pub use Rattle.legal.specs.Routes.{IsLetIn, IsShutOut}
pub use Rattle.legal.specs.Settings.{client_settings, relay_settings, server_settings}
pub use Rattle.theory_settled.proofs.LawProofs.{client_is_there}
pub use Rattle.theory_settled.proofs.OwnAddress.{own_is_teredo}
pub use Rattle.theory_settled.specs.Clients.{asks_at, client_address, standing}
pub use Rattle.theory_settled.specs.ItsNodes.{HasServer}
pub use Rattle.theory_origins.proofs.LawProofs.{is_brought, late_is_foreign, own_sources}
pub use Rattle.theory_origins.proofs.SentElsewhere.{leaves_elsewhere}
pub use Rattle.theory_origins.proofs.SentFrom.{leaves_at, nat_has}
pub use Rattle.theory_origins.specs.Handed.{IsBrought}
pub use Rattle.theory_origins.specs.Sources.{GoesElsewhere, HasOwnSource, IsBehind, outermost}
pub use Rattle.theory_ways.proofs.LawProofs.{enters_by_its_way, is_let_in}
pub use Rattle.theory_ways.specs.Inwards.{EntersPast}
pub use Rattle.theory_ways.specs.SettledAlong.{IsSettledAlong}
pub use Rattle.theory_ways.specs.Ways.{IsChained, has_symmetric, is_all_cone, nat_of, nats_of, outer_nats_of}
pub use Rattle.theory_first_packets.proofs.Deliveries.{Did, Handing, did_with, host_hands, leaves_nats}
pub use Rattle.theory_first_packets.proofs.HandedIn.{IsHandedIn, sound_first}
pub use Rattle.theory_first_packets.proofs.Journals.{at_same_moment, other_journal}
pub use Rattle.theory_first_packets.proofs.LawProofs.{next_packet_arrives_along}
pub use Rattle.theory_first_packets.proofs.passing.Addresses.{IsTold, is_nat_node, own_address_is, two_kinds}
pub use Rattle.theory_first_packets.proofs.passing.AllSent.{AllSent, DoesSend, all_leaves}
pub use Rattle.theory_first_packets.proofs.passing.Arrivals.{Arrival, At, arrival, beyond, bubble_formed, bubble_message, bubble_small}
pub use Rattle.theory_first_packets.proofs.passing.Elsewhere.{from_no_server, no_server_address, no_server_second, server_elsewhere}
pub use Rattle.theory_first_packets.proofs.passing.Ends.{IsEnd, Settles, is_end, way_of_server}
pub use Rattle.theory_first_packets.proofs.passing.Inward.{Comes, comes_or_not, let_in_too, shut_there}
pub use Rattle.theory_first_packets.proofs.passing.OnWay.{IsOnWay, no_nat, not_of}
pub use Rattle.theory_first_packets.proofs.passing.OwnAddress.{IsHere, address_is, address_stays, is_here}
pub use Rattle.theory_first_packets.proofs.passing.Reaching.{to_client, to_none, to_server}
pub use Rattle.theory_first_packets.proofs.passing.Sent.{IsElsewhere}
pub use Rattle.theory_first_packets.proofs.passing.Sides.{ComesIn, setup}
pub use Rattle.theory_first_packets.proofs.passing.Ways.{IsCalmNext, LeavesNats, Way, any_dst, counts_itself, counts_on, nats_left, still_way}
pub use Rattle.theory_first_packets.proofs.passing.WaysIn.{WayIn, asked_along, cone_along, enters_along, still_in}
pub use Rattle.theory_first_packets.proofs.schedule.Alone.{alone, as_long, first_is, on_wire}
pub use Rattle.theory_first_packets.proofs.schedule.Brought.{some_so, within_so}
pub use Rattle.theory_first_packets.proofs.schedule.Ground.{Keeps}
pub use Rattle.theory_first_packets.proofs.schedule.Pair.{IsPair, Pair, meets}
pub use Rattle.theory_first_packets.proofs.tables.AtClients.{Afterwards, after_bubble, after_indirect, after_packet, after_queued, unbarred_then}
pub use Rattle.theory_first_packets.proofs.tables.AtServer.{MayTell}
pub use Rattle.theory_first_packets.proofs.tables.GivenPacket.{sent_there, stands_for}
pub use Rattle.theory_first_packets.proofs.tables.HostPacket.{Waits, goes_at_once, out, waits_here}
pub use Rattle.theory_first_packets.proofs.tables.IndirectBubble.{answers_it}
pub use Rattle.theory_first_packets.proofs.tables.Known.{Touches, no_trust, tried_after, untried}
pub use Rattle.theory_first_packets.proofs.tables.Lists.{each_pair, each_so, last_there, one_longer, same_number, still_there}
pub use Rattle.theory_first_packets.proofs.tables.Meeting.{Knows, Meets, hands_packet, hears_bubble}
pub use Rattle.theory_first_packets.proofs.tables.Received.{IsForHere, entry_here, hands_by, seen_here as seen_at_client}
pub use Rattle.theory_first_packets.specs.AlongWays.{MayMeetAlong}
pub use Rattle.theory_first_packets.specs.FirstPacket.{Arrives, GetsThrough, GoesBetween, HasArrived, HostHandsIn}
pub use Rattle.theory_first_packets.specs.MayMeet.{known_by}
pub use Rattle.theory_first_packets.specs.Schedules.{AreFresh, DeliversFresh, HasNoFault, IsComplete, SomeIs, is_fault}
pub use Rattle.theory_first_natives.proofs.Apart.{is_client_node, is_native_node, is_relay_node, sixes_apart}
pub use Rattle.theory_first_natives.proofs.LawProofs.{next_from_native_arrives, next_to_native_arrives}
pub use Rattle.theory_first_natives.proofs.RelayEndpoint.{IsBeside}
pub use Rattle.theory_first_natives.proofs.Served.{is_served}
pub use Rattle.theory_first_natives.proofs.from_native.Trio.{IsTrio, Trio, no_secondary}
pub use Rattle.theory_first_natives.proofs.from_native.TrioBoards.{Course, Parted, TrioRun, parted}
pub use Rattle.theory_first_natives.proofs.from_native.TrioStages.{IsOpen, TrustsClient, TrustsClientAt, TrustsHost, TrustsHostAt, leaves_for_relay}
pub use Rattle.theory_first_natives.proofs.from_native.TrioStart.{IsStart, Starts}
pub use Rattle.theory_first_natives.proofs.tables.ClientTests.{answers_nothing}
pub use Rattle.theory_first_natives.proofs.tables.FromTrusted.{IsFromTrusted, handed_at_once}
pub use Rattle.theory_first_natives.proofs.tables.Makes.{native_echoes, native_gives, relay_passes, relay_sends}
pub use Rattle.theory_first_natives.proofs.tables.NativeReads.{asked, native_answers, reply_fields, test_carries, test_fields, test_reads}
pub use Rattle.theory_first_natives.proofs.tables.NativeTables.{goes_to_six, packet_goes_on, unlisted_is_dropped}
pub use Rattle.theory_first_natives.proofs.tables.OneMoreListed.{others_stay}
pub use Rattle.theory_first_natives.proofs.tables.RelayGives.{entry_six}
pub use Rattle.theory_first_natives.proofs.tables.RelayHears.{entry_in, of_peer, seen_here as seen_at_relay, unkeyed}
pub use Rattle.theory_first_natives.proofs.to_native.ForHost.{IsForHost, goes_out}
pub use Rattle.theory_first_natives.proofs.to_native.ToAnswer.{IsAsked}
pub use Rattle.theory_first_natives.specs.MayMeetThroughRelay.{MayAskClient, MayMeetThroughRelay, MayTest, known_by_relay, must_ask, trusts_client}
pub use Rattle.theory_first_natives.specs.NextFromNative.{GivesInTime, GivesToHost, most_deliveries, most_from_native}
pub use Rattle.theory_first_natives.specs.NextToNative.{MayReachNative}
pub use Rattle.theory_first_natives.specs.ToNative.{BringsToNative, ComesWithin, ReachesNative}
pub use Rattle.theory_reaching.specs.Away.{AwayBringsNothing, AwayBringsNothingIn}
pub use Rattle.theory_reaching.specs.BetweenClients.{TwoClients, between_clients_lines, between_clients_row, early_client_lines, late_client_lines, opening_client_lines}
unfoldable pub use Rattle.theory_reaching.specs.BetweenClients.{two_clients}
pub use Rattle.theory_reaching.specs.Conditions.{clients_of, ends_at, has_room_for_both, is_on, is_settled_with, keeps_packets, peers_of}
unfoldable pub use Rattle.theory_reaching.specs.Conditions.{is_led_to, is_settled}
pub use Rattle.theory_reaching.specs.FromNative.{from_native_lines, from_native_row}
pub use Rattle.theory_reaching.specs.Kept.{WordsAreKept, WordsKept}
pub use Rattle.theory_reaching.specs.MovedStraight.{GoneElsewhere, MovedBetweenClients, MovedBubbles, MovedTests, MovedToNatives}
pub use Rattle.theory_reaching.specs.Promises.{BringsTo, BringsWithin, ComesInTime, ComesWithHeld, IsDroppedAtOnce, IsNameable, IsOwnTest, IsPromised, IsSentNext, IsShut, KeepsBetweenClients, KeepsBetweenClientsIn, KeepsFromNatives, KeepsFromNativesIn, KeepsItsPromise, KeepsItsPromiseIn, KeepsToNatives, KeepsToNativesIn, NoneButHeld, NoneButItsTest, SomeBrings}
pub use Rattle.theory_reaching.specs.Reach.{reach_between}
unfoldable pub use Rattle.theory_reaching.specs.Reach.{reach_of}
pub use Rattle.theory_reaching.specs.Silent.{BarredSenderIsSilent, BarredSenderIsSilentIn, HandsIn, OffMakesNothing, OffMakesNothingIn}
pub use Rattle.theory_reaching.specs.Speaks.{answers_at, is_elsewhere, is_from, way_to}
unfoldable pub use Rattle.theory_reaching.specs.Speaks.{bubbles_stray, somebody_answers, speaks_to, strays_to}
pub use Rattle.theory_reaching.specs.ThroughRelay.{Relayed}
unfoldable pub use Rattle.theory_reaching.specs.ThroughRelay.{relayed}
pub use Rattle.theory_reaching.specs.ToNative.{late_native_lines, opening_native_lines, to_native_lines, to_native_row}
pub use Rattle.theory_reaching.specs.Waiting.{ClientKeptBack, IsOver}
pub use Rattle.theory_reaching.specs.declared.word.Reach.{Reach}
