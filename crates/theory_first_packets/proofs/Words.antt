-- Where the words of this crate's proofs are defined: its files name them from here. `.ci/words` keeps this file.
pub use Rattle.std.proofs.Common.{Bool, Contains, Err, List, None, Ok, Option, Result, Some, [], ap, arith, cond, drop, false, inl, inr, length, map, not, refl, subst, suc, sym, true, zero, ℕ, ◌&&◌, ◌++◌, ◌+◌, ◌-◌, ◌<◌, ◌==◌, ◌||◌, ◌∙◌, ◌∷◌, ◌≡◌, ◌≢◌, ◌≤◌, ◌⊎◌}
pub use Rattle.std.proofs.Math.Seq.{append_snoc}
pub use Rattle.std.proofs.lemmas.Bool.{and_from, and_left, and_parts, and_right, false_from_ne_true, false≢true, not_from_true, or_from, or_left, or_parts, or_right}
pub use Rattle.std.proofs.lemmas.Bool.Decides.{nat_tests}
pub use Rattle.std.proofs.lemmas.List.{take_rest}
pub use Rattle.std.proofs.lemmas.List.Elements.{All-contains, All-from_recursion}
pub use Rattle.std.specs.List.{AllByRecursion, list_all, list_any}
pub use Rattle.std.specs.Option.{option_or}
pub use Rattle.std.specs.Prelude.{IfSome, filter, filter_map, is_some, nat_le, nat_lt, option_and_then, option_map, option_to_list, slice_get, unwrap_or}
pub use Rattle.td_base.specs.Bytes.{IsBytes}
pub use Rattle.td_base.specs.Ep.{IsEp, same_ep, same_ep-self, same_ep-true, server_ep}
pub use Rattle.td_base.specs.Ip4.{same_ip, same_ip-self, same_ip-true}
pub use Rattle.td_base.specs.Ip6.{IsIp6, same_ip6, same_ip6-self, same_ip6-true}
pub use Rattle.td_base.specs.Reach.{is_global, is_global6, is_link_local}
unfoldable pub use Rattle.td_base.specs.Reach.{is_usable}
pub use Rattle.td_base.specs.declared.datagram.TheConstants.{DATAGRAM_MAX}
pub use Rattle.td_base.specs.declared.endpoint.Ep.{Ep}
pub use Rattle.td_base.specs.declared.ipv4.Ip4.{Ip4}
pub use Rattle.td_base.specs.declared.ipv6.Ip6.{Ip6}
pub use Rattle.td_base.specs.declared.reach.Policy.{Policy}
pub use Rattle.td_base.specs.declared.reach.Policy.TheVariants.{Strict}
pub use Rattle.td_base.specs.declared.side.Side.TheVariants.{Primary}
pub use Rattle.td_base.specs.declared.span.Span.{Span}
pub use Rattle.ipv6_packet.proofs.LawProofs.{packet_is_bytes, packet_is_spelled}
pub use Rattle.ipv6_packet.specs.Packets.{Fields}
pub use Rattle.ipv6_packet.specs.Reads.{fields_in, is_packet}
unfoldable pub use Rattle.ipv6_packet.specs.Reads.{is_big}
pub use Rattle.ipv6_packet.specs.declared.header.TheConstants.{HEADER, PACKET_MAX}
pub use Rattle.teredo_addr.proofs.LawProofs.{flags_tell, link_local_tells, teredo_tells}
pub use Rattle.teredo_addr.specs.Laws.{IsTeredoOf}
unfoldable pub use Rattle.teredo_addr.specs.Reaching.{is_reachable}
pub use Rattle.teredo_addr.specs.Teredo.{embedded, flags_of, has_cone, is_teredo, server_in, unspecified}
pub use Rattle.teredo_addr.specs.declared.local.TheConstants.{ALL_ROUTERS}
unfoldable pub use Rattle.indications.specs.Leads.{is_confirmed, is_keyed}
pub use Rattle.bubble.proofs.LawProofs.{bubble_reads_back, packet_is_payload, payload_is_spelled}
pub use Rattle.bubble.proofs.MadeInputs.{origin_is}
pub use Rattle.bubble.specs.Bubbles.{bubble_bytes, bubble_of}
unfoldable pub use Rattle.bubble.specs.Bubbles.{is_bubble}
pub use Rattle.bubble.specs.Laws.{ReadsBubble, ReadsPayload}
pub use Rattle.bubble.specs.Messages.{is_advert}
unfoldable pub use Rattle.bubble.specs.Messages.{is_ill_formed, message_in}
pub use Rattle.bubble.specs.PacketsIn.{packet_in}
unfoldable pub use Rattle.bubble.specs.PacketsIn.{destination_in, packet_given, source_in}
pub use Rattle.bubble.specs.Payloads.{Value, payload_at, value_written}
pub use Rattle.bubble.specs.Reads.{is_payload, value_in}
pub use Rattle.teredo_node.specs.Journal.{Entry, Input, Journal, Words, arrived, from_six, given, is_changed, ticked, with_entry}
pub use Rattle.teredo_node.specs.MadeInputs.{AreMadeInputs, IsMadeInput}
pub use Rattle.teredo_node.specs.Rows.{first_line}
pub use Rattle.teredo_node.specs.Sends.{releases, send}
pub use Rattle.teredo_node.specs.Step.{Send, Step, part, rest_of}
pub use Rattle.teredo_node.specs.declared.fate.Fate.{Fate}
pub use Rattle.server_core.proofs.LawProofs.{forwarded_reads_back}
pub use Rattle.server_core.specs.Conditions.{is_solicit, server_link_local}
unfoldable pub use Rattle.server_core.specs.Conditions.{is_for_client, is_for_server, is_forged, is_looped, is_not_ours, is_other_kind, is_own, is_solicitation, is_unusable}
pub use Rattle.server_core.specs.Outputs.{forwarded}
pub use Rattle.server_core.specs.Rules.{ServerSeen, last_line, server_datagram_lines, server_destination_lines, server_packet_lines, server_seen}
unfoldable pub use Rattle.server_core.specs.Rules.{rule_of}
pub use Rattle.server_core.specs.Server.{by_payload, sends_one, step_of}
unfoldable pub use Rattle.server_core.specs.Server.{server_row}
pub use Rattle.server_core.specs.declared.rules.Rule.TheVariants.{Dropped, Forward, ForwardOrigin, Six}
pub use Rattle.server_core.specs.declared.server.ServerSettings.{ServerSettings}
pub use Rattle.peer_list.proofs.LawProofs.{listed_is_known, one_entry, unlisted}
pub use Rattle.peer_list.proofs.Rooms.{not_listed}
pub use Rattle.peer_list.proofs.TableLemmas.{young_now}
pub use Rattle.peer_list.specs.Judged.{is_ep, young_tries}
unfoldable pub use Rattle.peer_list.specs.Judged.{is_barred, is_fresh, is_full, is_spent, is_trusted_at}
pub use Rattle.peer_list.specs.Laws.{after, peer_if, tries_after}
pub use Rattle.peer_list.specs.Listed.{is_listed, is_younger, listed}
unfoldable pub use Rattle.peer_list.specs.Listed.{has_room}
pub use Rattle.peer_list.specs.Mentions.{Mention, is_peer}
pub use Rattle.peer_list.specs.Peers.{Peer, known, no_peer, peer_at}
pub use Rattle.peer_list.specs.declared.limits.TheConstants.{LISTED_MS, PEERS_MAX, TRIES_MAX, TRY_GAP_MS, WAITING_MAX}
pub use Rattle.qualify.proofs.LawProofs.{keeps_still, turns}
pub use Rattle.qualify.specs.Advertisements.{Heard, advert_row, heard}
pub use Rattle.qualify.specs.Laws.{fresh}
pub use Rattle.qualify.specs.Qualification.{Qualification, address_after, qualification}
pub use Rattle.qualify.specs.Solicitations.{is_qualified}
unfoldable pub use Rattle.qualify.specs.Solicitations.{own_address}
pub use Rattle.qualify.specs.Turns.{Turn, begins, flags_word, leaves, origin_given, renews, says_nothing, turn, turn_of}
pub use Rattle.qualify.specs.declared.phase.Phase.{Phase}
pub use Rattle.qualify.specs.declared.settings.Settings.{Settings}
pub use Rattle.client_rules.proofs.LawProofs.{next_mentions, qualified_has_address, reception_is_warranted}
pub use Rattle.client_rules.specs.Bearings.{bearing_of, mention, mentions, source_of}
pub use Rattle.client_rules.specs.Journals.{entry}
unfoldable pub use Rattle.client_rules.specs.Journals.{client_in, client_out}
pub use Rattle.client_rules.specs.MadeSends.{IsMadeClient}
pub use Rattle.client_rules.specs.Reception.{Seen, datagram_lines, direct_lines, indirect_lines, packet_lines, reception_row, reception_step, seen_of, server_lines, suspicious_lines, teredo_lines, trusted_lines}
unfoldable pub use Rattle.client_rules.specs.Reception.{is_from_server, reception, reception_fate, seen}
pub use Rattle.client_rules.specs.Standing.{Standing, known_in, standing_of}
unfoldable pub use Rattle.client_rules.specs.Standing.{standing_at}
pub use Rattle.client_rules.specs.Transmission.{Given, given_of, queues, transmission_row, transmission_step}
pub use Rattle.client_rules.specs.Tries.{both_bubbles, tries_by}
unfoldable pub use Rattle.client_rules.specs.Tries.{try_sends}
pub use Rattle.client_rules.specs.Warrants.{GoesLater, GoesOut, GoesToCone, GoesToFresh, ReceivedOnlyIf}
pub use Rattle.relay_rules.proofs.ForeignSends.{read_as}
pub use Rattle.nat_kinds.proofs.LawProofs.{counting_datagram_holds_its_port, let_in_where_asked, live_ports_are_in_range, port_has_one_key}
pub use Rattle.nat_kinds.specs.Answer.{live_after, nat_answer, port_for}
pub use Rattle.nat_kinds.specs.History.{NatEntry, Out, Restart, counting, is_young, kept}
pub use Rattle.nat_kinds.specs.Kinds.{is_cone_kind, is_symmetric}
pub use Rattle.nat_kinds.specs.Laws.{IsPast, WasAsked, latest_moment}
pub use Rattle.nat_kinds.specs.Mappings.{live_port}
pub use Rattle.nat_kinds.specs.declared.kind.NatKind.{NatKind}
pub use Rattle.nat_kinds.specs.declared.kind.NatKind.TheVariants.{Cone, Port, Symmetric}
pub use Rattle.nat_kinds.specs.declared.limits.TheConstants.{FIRST_PORT}
pub use Rattle.nat_kinds.specs.declared.outgoing.Outward.{Outward}
pub use Rattle.nat_kinds.specs.declared.refusal.NatRefusal.{NatRefusal}
pub use Rattle.nat_kinds.specs.declared.settings.NatSettings.{NatSettings}
pub use Rattle.topology.proofs.LawProofs.{apart as addresses_are_apart, each_node}
pub use Rattle.topology.specs.Chains.{Behind, Crossing, Inward, NatPasts, Passing, after_passing, chain_in, comes_to, crossing, goes_in, inner_at, is_inner, last_nat, let_in, nat_set_up, nats_from, outer_in, outs_at, passing, shut_at, way_out}
pub use Rattle.topology.specs.NodeRules.{IsNatNode, IsServerNode, has_address}
pub use Rattle.topology.specs.Rows.{TopologyState}
pub use Rattle.topology.specs.Rules.{IsTopology}
pub use Rattle.topology.specs.Topology.{as_nat, client_at, node_at, own_ep, settings_of_nat, side_at}
pub use Rattle.topology.specs.declared.client_node.ClientNode.{ClientNode}
pub use Rattle.topology.specs.declared.nat_node.NatNode.{NatNode}
pub use Rattle.topology.specs.declared.node.Node.{Node}
pub use Rattle.topology.specs.declared.node.Node.TheVariants.{Client as client, Nat as nat, Native as native, Relay as relay, Server as server}
pub use Rattle.topology.specs.declared.server_node.ServerNode.{ServerNode}
pub use Rattle.events.specs.declared.verb.Verb.{Verb}
pub use Rattle.history.specs.Full.{Full, Item, Made, item_in, items_of, sent, six, udp, wire}
pub use Rattle.legal.proofs.Delivered.{on_wire}
pub use Rattle.legal.proofs.LawProofs.{client_journals, deliveries, frame, grown as history_is_grown, is_reached as each_is_reached, is_shut_out, of_its_event, of_node, wire_is_made}
pub use Rattle.legal.proofs.MadeInputs.{client_made, entry_input}
pub use Rattle.legal.proofs.NatPasts.{set_up_past}
pub use Rattle.legal.proofs.RouteEnds.{comes, is_reached, same_end}
pub use Rattle.legal.specs.Actors.{IsActOf, IsGiven, delivered, hosted, ticks}
pub use Rattle.legal.specs.Deliveries.{Delivery, IsReached, missed_fate, to_nobody, to_node}
pub use Rattle.legal.specs.Emit.{Sendings, by_way, closed, crossing_unless, entry_of, handed_by, is_at_place, made_outright, marked, or_loss, outright, part_of, reaches, route, sendings, six_made}
pub use Rattle.legal.specs.Lab.{Draws, Lab, draws, flat_lab, lab_of}
pub use Rattle.legal.specs.Legal.{Follows, Grown}
pub use Rattle.legal.specs.Next.{dst_of, input_of, no_ep}
pub use Rattle.legal.specs.OfNode.{OfNode, acts, rests}
pub use Rattle.legal.specs.Past.{armed, at_nat, forgotten, is_node, is_number, is_restart, journal, nat_entries, nat_history, nat_pasts, now, was_delivered, words}
pub use Rattle.legal.specs.Routes.{IsLetIn, IsShutOut}
pub use Rattle.legal.specs.Settings.{client_settings, server_settings}
pub use Rattle.theory_settled.proofs.Earlier.{earlier}
pub use Rattle.theory_settled.proofs.ItsNodes.{primary_has, secondary_has}
pub use Rattle.theory_settled.proofs.LawProofs.{address_is_own, client_is_there}
pub use Rattle.theory_settled.specs.Clients.{asks_at, client_address}
pub use Rattle.theory_settled.specs.OwnAddress.{IsOwnAddress, WasTold}
pub use Rattle.theory_settled.specs.Settled.{IsSettled}
pub use Rattle.theory_origins.specs.Sources.{outermost}
pub use Rattle.theory_verdicts.proofs.NatPorts.{asks_it, key_inside}
pub use Rattle.theory_verdicts.proofs.SoundAdverts.{cone_asked}
pub use Rattle.theory_ways.proofs.LawProofs.{enters_by_its_way, flat_is_chained, is_let_in, settled_is_along}
pub use Rattle.theory_ways.specs.Inwards.{EntersPast}
pub use Rattle.theory_ways.specs.SettledAlong.{IsSettledAlong}
pub use Rattle.theory_ways.specs.Ways.{IsChained, has_symmetric, is_all_cone, nat_of, nats_of, outer_nats_of}
pub use Rattle.theory_first_packets.specs.AlongWays.{AreStrangersAlong, FirstPacketArrivesAlong, HistoriesCarryAlong, IsNextPacketAlong, MayMeetAlong, NextPacketArrivesAlong, OfEachSchedule, TakesACourseAlong}
pub use Rattle.theory_first_packets.specs.Courses.{EachTakesACourse, HistoriesTakeCourses, courses, fates_of}
pub use Rattle.theory_first_packets.specs.FirstPacket.{AreStrangers, GetsThrough, GoesBetween, HasArrived, HostHandsIn, IsNew}
pub use Rattle.theory_first_packets.specs.MayMeet.{EachNextPacketArrives, IsReadyFor, IsUnbarredFor, MayMeet, StrangersMayMeet, known_by}
pub use Rattle.theory_first_packets.specs.NoRoom.{FullReceiverHearsNothing, FullSenderDrops, IsTurnedAway, IsUnheard}
pub use Rattle.theory_first_packets.specs.Schedules.{AreFresh, DeliversFresh, HasNoFault, IsComplete, IsWithin, SomeIs, is_fault}
pub use Rattle.theory_first_packets.specs.Throughout.{EachFirstPacketArrives, HistoriesCarryFirstPackets, ScenariosCarryFirstPackets}
