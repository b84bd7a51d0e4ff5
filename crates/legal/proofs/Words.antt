-- Where the words of this crate's proofs are defined: its files name them from here. `.ci/words` keeps this file.
pub use Rattle.std.proofs.Common.{Bool, Err, List, None, Ok, Option, Result, Some, [], ap, arith, cond, drop, false, filter, get_or, inl, inr, length, map, mul-le-mul, nat_le, nat_lt, not, refl, subst, suc, sym, true, zero, ℕ, ◌&&◌, ◌*◌, ◌++◌, ◌+◌, ◌-◌, ◌<◌, ◌==◌, ◌||◌, ◌∙◌, ◌∷◌, ◌≡◌, ◌≢◌, ◌≤◌, ◌⊎◌}
pub use Rattle.std.proofs.Math.Nat.{le_refl, le_trans}
pub use Rattle.std.proofs.lemmas.Bool.{and_from, and_parts, eq-eqb, eqb-true, false≢true, le-leb, leb-false, leb-true, lt-ltb, ltb-true, or_cases, or_right}
pub use Rattle.std.proofs.lemmas.Bool.Decides.{nat_tests}
pub use Rattle.std.proofs.lemmas.Grind.{flat_map-append}
pub use Rattle.std.proofs.lemmas.List.{length-take, take_all}
pub use Rattle.std.proofs.lemmas.List.Elements.{All-contains, All-from_recursion, filter_map-append}
pub use Rattle.std.proofs.lemmas.List.Quantifiers.{position-Some}
pub use Rattle.std.proofs.lemmas.List.Sums.{sum_by-cons, sum_by-le-sum_by}
pub use Rattle.std.proofs.lemmas.Option.{none-some, same_Some, slice_get-get_or, slice_get_within}
pub use Rattle.std.specs.List.{AllByRecursion, list_any, position_or_len}
pub use Rattle.std.specs.Prelude.{Contains, IfSome, filter_map, flat_map, is_some, max, option_and_then, option_map, option_to_list, position, slice_get, sum_by, unwrap_or, ◌^◌}
pub use Rattle.td_base.proofs.BytesLemmas.{IsBytes-drop, IsBytes-take, no_bytes}
pub use Rattle.td_base.proofs.Lists.{all_map}
pub use Rattle.td_base.specs.Bytes.{IsBytes}
pub use Rattle.td_base.specs.Ep.{IsEp, same_ep, same_ep-self, same_ep-true, server_ep}
pub use Rattle.td_base.specs.Ip4.{IsIp4, same_ip, same_ip-self, same_ip-true}
pub use Rattle.td_base.specs.Ip6.{IsIp6, same_ip6, same_ip6-self, same_ip6-true}
pub use Rattle.td_base.specs.Reach.{is_global6}
pub use Rattle.td_base.specs.declared.datagram.TheConstants.{DATAGRAM_MAX}
pub use Rattle.td_base.specs.declared.endpoint.Ep.{Ep}
pub use Rattle.td_base.specs.declared.ipv4.Ip4.{Ip4}
pub use Rattle.td_base.specs.declared.ipv6.Ip6.{Ip6}
pub use Rattle.td_base.specs.declared.side.Side.{Side}
pub use Rattle.td_base.specs.declared.side.Side.TheVariants.{Primary}
pub use Rattle.td_base.specs.declared.span.Span.{Span}
pub use Rattle.ipv6_packet.proofs.LawProofs.{packet_is_bytes, packet_is_spelled, packet_reads_back}
pub use Rattle.ipv6_packet.specs.Laws.{ReadsPacket}
pub use Rattle.ipv6_packet.specs.Packets.{Fields}
unfoldable pub use Rattle.ipv6_packet.specs.Packets.{packet_bytes}
pub use Rattle.ipv6_packet.specs.Reads.{fields_in, is_packet}
pub use Rattle.ipv6_packet.specs.declared.header.TheConstants.{HEADER}
pub use Rattle.icmp6.proofs.LawProofs.{message_is_bytes}
pub use Rattle.icmp6.specs.Grammar.{MessageFits}
pub use Rattle.icmp6.specs.Message.{Message, echo_reply, echo_request}
pub use Rattle.teredo_addr.proofs.AddressLaws.{embedded_is}
pub use Rattle.teredo_addr.proofs.LawProofs.{flags_tell, teredo_tells}
pub use Rattle.teredo_addr.specs.Teredo.{embedded, is_teredo}
pub use Rattle.bubble.proofs.LawProofs.{message_is_carried, payload_is_spelled}
pub use Rattle.bubble.proofs.MadeInputs.{zeros_are}
pub use Rattle.bubble.specs.Messages.{message_in, message_packet}
pub use Rattle.bubble.specs.PacketsIn.{destination_in, source_in}
unfoldable pub use Rattle.bubble.specs.PacketsIn.{packet_given}
pub use Rattle.bubble.specs.Payloads.{Value, payload_at}
pub use Rattle.bubble.specs.Reads.{is_ok_payload, value_or}
unfoldable pub use Rattle.bubble.specs.Reads.{is_payload, value_in}
pub use Rattle.bubble.specs.declared.fault.PayloadFault.{PayloadFault}
pub use Rattle.teredo_node.proofs.FirstLines.{first_of_each}
pub use Rattle.teredo_node.specs.Journal.{Entry, Input, Journal, Words, arrived, from_six, given, is_changed, ticked, with_entry}
pub use Rattle.teredo_node.specs.MadeInputs.{AreMadeInputs, IsMadeInput, IsMadeSend}
pub use Rattle.teredo_node.specs.Sends.{sending}
pub use Rattle.teredo_node.specs.Step.{Send, Step, part, rest_of}
pub use Rattle.teredo_node.specs.Words.{drawn_words, nonce_of_words}
pub use Rattle.teredo_node.specs.declared.fate.Fate.{Fate}
pub use Rattle.teredo_node.specs.declared.fate.Fate.TheVariants.{Done, NatClosed}
pub use Rattle.server_core.proofs.LawProofs.{each_output_is_made, rule_is_warranted}
unfoldable pub use Rattle.server_core.specs.Conditions.{is_forged}
pub use Rattle.server_core.specs.RuleWarrants.{RuledOnlyIf}
pub use Rattle.server_core.specs.Rules.{last_line, server_datagram_lines, server_destination_lines, server_packet_lines, server_seen}
unfoldable pub use Rattle.server_core.specs.Rules.{rule_of}
pub use Rattle.server_core.specs.Server.{by_payload, step_of}
unfoldable pub use Rattle.server_core.specs.Server.{server_row}
pub use Rattle.server_core.specs.declared.rules.Rule.{Rule}
pub use Rattle.server_core.specs.declared.rules.Rule.TheVariants.{Advert, Dropped, Forward, ForwardOrigin, Six}
pub use Rattle.server_core.specs.declared.server.ServerSettings.{ServerSettings}
pub use Rattle.peer_list.proofs.FewLemmas.{fewer_pass}
pub use Rattle.peer_list.proofs.LawProofs.{first_is_earliest, first_waits, lasts as peer_list_lasts, listed_are, one_entry, one_entry as peer_list_one_entry, unlisted as peer_list_unlisted}
pub use Rattle.peer_list.proofs.Orders.{has, without}
pub use Rattle.peer_list.proofs.OverdueLemmas.{less_of}
pub use Rattle.peer_list.proofs.TableLemmas.{young_now}
pub use Rattle.peer_list.specs.Judged.{is_none, is_spent}
unfoldable pub use Rattle.peer_list.specs.Judged.{due_of}
pub use Rattle.peer_list.specs.Laws.{IsFirstBy, IsWaiting, after, peer_if}
pub use Rattle.peer_list.specs.Listed.{is_listed, is_younger, with_peer}
unfoldable pub use Rattle.peer_list.specs.Listed.{listed, touched}
pub use Rattle.peer_list.specs.Mentions.{Bearing, Mention, no_bearing}
pub use Rattle.peer_list.specs.Overdue.{due_by}
pub use Rattle.peer_list.specs.Peers.{Peer, known, no_peer, peer_at}
pub use Rattle.peer_list.specs.Waiting.{Listing, first_due}
pub use Rattle.peer_list.specs.declared.limits.TheConstants.{LISTED_MS, PEERS_MAX}
pub use Rattle.qualify.proofs.LawProofs.{keeps_still, turns as qualify_turns, turns_at_start}
pub use Rattle.qualify.specs.Advertisements.{advert_lines, heard, phase_line}
unfoldable pub use Rattle.qualify.specs.Advertisements.{advert_row}
pub use Rattle.qualify.specs.Laws.{tidings, turned}
pub use Rattle.qualify.specs.Qualification.{Qualification, address_in, asked as asked_in, due_in, in_phase, kept_origin, last_interval, nonces_in, phase_began, phase_of}
unfoldable pub use Rattle.qualify.specs.Qualification.{qualification}
pub use Rattle.qualify.specs.Solicitations.{due_fate, is_due, solicits_by}
unfoldable pub use Rattle.qualify.specs.Solicitations.{due_step, own_address}
pub use Rattle.qualify.specs.Turns.{says_nothing, turn, turn_of}
unfoldable pub use Rattle.qualify.specs.Turns.{interval_of}
pub use Rattle.qualify.specs.declared.limits.TheConstants.{SOLICITATIONS_MAX}
pub use Rattle.qualify.specs.declared.phase.Phase.{Phase}
pub use Rattle.qualify.specs.declared.phase.Phase.TheVariants.{Cone, OffLine, Qualified, Restricted, Symmetric}
pub use Rattle.qualify.specs.declared.settings.Settings.{Settings}
pub use Rattle.client_rules.proofs.LawProofs.{each_send_goes_to_endpoint, each_send_is_bytes, each_send_is_short, fate_of_reception as client_rules_fate_of_reception, journal_has_few as client_rules_journal_has_few, next_mentions}
pub use Rattle.client_rules.proofs.MadeSends.{or_unspecified, unspecified_is}
pub use Rattle.client_rules.proofs.MadeWaiting.{address_is}
pub use Rattle.client_rules.specs.Bearings.{bearing_of, mention, mentions}
pub use Rattle.client_rules.specs.Destinations.{GoesToEndpoint}
pub use Rattle.client_rules.specs.Journals.{IsJournal as IsClientJournal, client_entry, entry, first_peer}
unfoldable pub use Rattle.client_rules.specs.Journals.{client_due, client_in, client_out, client_tick}
pub use Rattle.client_rules.specs.MadeSends.{IsBytesSend, IsMadeClient}
pub use Rattle.client_rules.specs.Reception.{reception_fate, reception_step}
unfoldable pub use Rattle.client_rules.specs.Reception.{reception}
pub use Rattle.client_rules.specs.ShortSends.{IsShortSend}
pub use Rattle.client_rules.specs.Standing.{Standing, standing_of}
pub use Rattle.client_rules.specs.Ticks.{Due, asks, nothing, peer_due, sooner, tries, tries_peer, try_fate}
unfoldable pub use Rattle.client_rules.specs.Ticks.{due_at, next_due}
pub use Rattle.client_rules.specs.Tries.{try_sends, try_words}
pub use Rattle.relay_rules.proofs.LawProofs.{each_send_is_foreign, fate_of_reception as relay_rules_fate_of_reception, fate_of_transmission, journal_has_few as relay_rules_journal_has_few, reception_is_warranted}
pub use Rattle.relay_rules.specs.Bearings.{relay_bearing_of, relay_mention}
unfoldable pub use Rattle.relay_rules.specs.Bearings.{relay_mentions}
pub use Rattle.relay_rules.specs.ForeignSends.{IsForeignSend}
pub use Rattle.relay_rules.specs.Journals.{IsRelayJournal, relay_entry, relay_first_peer, relay_ticks, wordless_entry}
unfoldable pub use Rattle.relay_rules.specs.Journals.{relay_due, relay_in, relay_six, relay_tick}
pub use Rattle.relay_rules.specs.Reception.{RelaySeen, reception_lines, relay_reception_row, relay_reception_step}
unfoldable pub use Rattle.relay_rules.specs.Reception.{relay_reception, relay_seen}
pub use Rattle.relay_rules.specs.Standing.{RelaySettings, RelayStanding, relay_standing_of}
pub use Rattle.relay_rules.specs.Ticks.{relay_tries_peer}
pub use Rattle.relay_rules.specs.Transmission.{relay_destination_lines, relay_given, relay_packet_lines}
pub use Rattle.relay_rules.specs.Warrants.{RelayReceivedOnlyIf}
pub use Rattle.nat_kinds.proofs.LawProofs.{live_ports_are_in_range}
pub use Rattle.nat_kinds.proofs.StandsLemmas.{later_past}
pub use Rattle.nat_kinds.specs.Answer.{live_after, nat_answer, port_for}
pub use Rattle.nat_kinds.specs.History.{Forget, NatEntry, Out, Restart}
pub use Rattle.nat_kinds.specs.Laws.{IsPast}
pub use Rattle.nat_kinds.specs.Mappings.{first_free, is_used, live_port, lowest_free}
pub use Rattle.nat_kinds.specs.declared.limits.TheConstants.{FIRST_PORT, MAPPINGS_MAX}
pub use Rattle.nat_kinds.specs.declared.outgoing.Outward.{Outward}
pub use Rattle.nat_kinds.specs.declared.refusal.NatRefusal.{NatRefusal}
pub use Rattle.nat_kinds.specs.declared.settings.NatSettings.{NatSettings}
pub use Rattle.native_host.proofs.LawProofs.{each_is_own_packet, each_is_reply, each_reply_is_made}
pub use Rattle.native_host.proofs.MadeReplies.{has_message}
pub use Rattle.native_host.specs.NativeSends.{IsMadePacket, IsReply}
pub use Rattle.native_host.specs.Natives.{echo_of}
unfoldable pub use Rattle.native_host.specs.Natives.{native_in}
pub use Rattle.native_host.specs.declared.limits.TheConstants.{HOST_HOP}
pub use Rattle.topology.proofs.LawProofs.{apart as topology_apart, each_node}
pub use Rattle.topology.proofs.Lists.{all_at, all_joined, all_right, one_alone, right_distinct}
pub use Rattle.topology.specs.Chains.{Behind, Inward, Passing, after_passing, answered, chain_in, comes_to, crossing, is_inner, nat_set_up, outs_at, passing, shut_at, way_out}
pub use Rattle.topology.specs.NodeRules.{IsClientNode, IsNatNode, IsNativeNode, IsRelayNode, IsServerNode, has_address}
pub use Rattle.topology.specs.Rows.{TopologyState}
pub use Rattle.topology.specs.Rules.{AreDistinct, IsClient, IsTopology, same_inside}
pub use Rattle.topology.specs.Topology.{as_client, as_nat, as_server, client_at, first_passing, is_at, is_behind, is_native, nat_at, nat_settings, node_at, nodes, own_ep, relay_at, server_at, settings_of_nat, side_at}
pub use Rattle.topology.specs.declared.client_node.ClientNode.{ClientNode}
pub use Rattle.topology.specs.declared.nat_node.NatNode.{NatNode}
pub use Rattle.topology.specs.declared.native_node.NativeNode.{NativeNode}
pub use Rattle.topology.specs.declared.node.Node.{Node}
pub use Rattle.topology.specs.declared.node.Node.TheVariants.{Client as client, Nat as nat, Native as native, Relay as relay, Server as server}
pub use Rattle.topology.specs.declared.relay_node.RelayNode.{RelayNode}
pub use Rattle.topology.specs.declared.server_node.ServerNode.{ServerNode}
pub use Rattle.events.specs.Events.{IsEvent, IsTarget}
pub use Rattle.events.specs.Scenario.{Scenario}
pub use Rattle.events.specs.declared.event.Event.{Event}
pub use Rattle.events.specs.declared.event.TheConstants.{ADVANCE_MAX_MS}
pub use Rattle.events.specs.declared.target.Target.{Target}
pub use Rattle.events.specs.declared.verb.Verb.{Verb}
pub use Rattle.history.specs.Full.{Full, Item, Made, bytes_of, item_in, items_of, six, udp, wire}
pub use Rattle.history.specs.Telling.{IsTold, is_no_entry}
pub use Rattle.history.specs.declared.act.Act.{Act}
pub use Rattle.history.specs.declared.mark.Loss.{Loss}
pub use Rattle.legal.specs.Actors.{Acted, EachActs, IsActOf, IsGiven, delivered, does, idles}
pub use Rattle.legal.specs.Deliveries.{Delivery, EachDelivery, IsMissed, done_with, missed_fate, to_nobody, to_node}
pub use Rattle.legal.specs.Emit.{Route, astray, by_way, closed, crossing_unless, entry_of, from_outside, is_at_place, made_outright, marked, native_made, native_packet, or_loss, outright, reach, reach_node, reaches, relay_for, route, route_in, sendings, six_made, tick_due}
pub use Rattle.legal.specs.Frame.{EachFrames, EachKeepsToItsWay, Frames, KeepsToItsWay, way_by, way_from}
pub use Rattle.legal.specs.GivesPacket.{EachGivesPacket, GivesPacket, PassesOn}
pub use Rattle.legal.specs.Kinds.{Delivers, Hands, IsDue, Kind, Quiet, asked_event, faulted, forgot, handed, missing, none_left, passed, put, quiet, reached, restarted, settled, shut, strayed, uncopied}
pub use Rattle.legal.specs.Lab.{Lab, lab_of}
pub use Rattle.legal.specs.Laws.{EachAdvanceFalls, EachAdvanceIsBounded, EachClientIsJournal, EachHasOneMaker, EachIsAskedFor, EachIsAtOnce, EachIsTold, EachRelayIsJournal, HasOneMaker, IsAskedFor, IsOf, IsOfClient, IsOfRelay, Makes, delivers, is_advance, is_delivering, others}
pub use Rattle.legal.specs.Left.{all_due, due_moments, left_to, peers_due, waits_until}
pub use Rattle.legal.specs.Legal.{Begun, ChainLegal, Follows, GoesOn, Grown, IsWhole}
pub use Rattle.legal.specs.MadeWire.{EachHistoryIsMade, IsMadeHistory, IsMadeItem, IsPacketItem, NamesRelay}
pub use Rattle.legal.specs.Makers.{EachItemIsMade, Forges, MadeBy, by_client, by_native, by_relay, by_server, from_nowhere, strange, to_six}
pub use Rattle.legal.specs.NatGrowth.{ComesBy, EachNatGrows, IsOutOf, NatGrows, forgets, lets_out, restarts, stays}
pub use Rattle.legal.specs.Next.{DueNode, Numbered, address_at, address_of, advance_with, advanced, blank, copies, data_packet, delivers_item, delivers_or, delivers_to, dst_of, earlier, echo_packet, hands_in, input_of, least_due, next_of, no_ep, numbered, plain, target_address}
unfoldable pub use Rattle.legal.specs.Next.{next}
pub use Rattle.legal.specs.OfNode.{EachIsOfNode, OfNode, rests}
pub use Rattle.legal.specs.OwnSends.{AreOfSends, AreOwn, EachMakesItsOwn, IsOfSend}
pub use Rattle.legal.specs.Past.{armed, at_nat, began, first_undelivered, forgotten, has_more, is_node, is_restart, journal, nat_history, new_journal, now, place, with_entries, words}
pub use Rattle.legal.specs.Recorded.{EachIsRecorded, IsRecorded}
pub use Rattle.legal.specs.Routes.{DatagramReaches, EachIsReached, EachIsShutOut, EachRoute, EntersBy, IsLetIn, PacketReaches}
pub use Rattle.legal.specs.Settings.{client_settings, primary_of, relay_settings, secondary_of, server_settings}
pub use Rattle.legal.specs.declared.left.TheConstants.{LEFT_MAX}
