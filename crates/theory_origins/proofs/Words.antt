-- Where the words of this crate's proofs are defined: its files name them from here. `.ci/words` keeps this file.
pub use Rattle.byteorder.specs.Endian.{big_bytes}
pub use Rattle.std.proofs.Common.{Bool, Err, List, None, Ok, Option, Result, Some, [], ap, append_assoc, arith, cond, drop, false, inl, inr, length, ltb-true, nat_lt, not, refl, subst, suc, sym, take, true, zero, ℕ, ◌%◌, ◌&&◌, ◌++◌, ◌-◌, ◌<◌, ◌^◌, ◌||◌, ◌∙◌, ◌∷◌, ◌≡◌, ◌≤◌, ◌⊎◌}
pub use Rattle.std.proofs.lemmas.Bool.{and_from, and_parts, false≢true, not-true, or_cases, or_right}
pub use Rattle.std.proofs.lemmas.List.{take_all, take_at, take_rest}
pub use Rattle.std.proofs.lemmas.List.Elements.{All-contains, All-from_recursion}
pub use Rattle.std.proofs.lemmas.Option.{slice_get_within}
pub use Rattle.std.specs.List.{AllByRecursion, list_all, list_any}
pub use Rattle.std.specs.Prelude.{Contains, IfSome, is_some, map, option_and_then, option_map, slice_get, unwrap_or}
pub use Rattle.td_base.proofs.Lists.{all_map}
pub use Rattle.td_base.specs.Bytes.{IsBytes}
pub use Rattle.td_base.specs.Ep.{IsEp, same_ep, same_ep-self, same_ep-true, server_ep}
pub use Rattle.td_base.specs.Ip4.{IsIp4, same_ip, same_ip-self, same_ip-true}
pub use Rattle.td_base.specs.Ip6.{IsIp6, same_ip6-true}
unfoldable pub use Rattle.td_base.specs.Reach.{is_global, is_link_local}
pub use Rattle.td_base.specs.declared.datagram.TheConstants.{DATAGRAM_MAX}
pub use Rattle.td_base.specs.declared.endpoint.Ep.{Ep}
pub use Rattle.td_base.specs.declared.ipv4.Ip4.{Ip4}
pub use Rattle.td_base.specs.declared.ipv6.Ip6.{Ip6}
pub use Rattle.td_base.specs.declared.reach.Policy.TheVariants.{Strict}
pub use Rattle.td_base.specs.declared.side.Side.{Side}
pub use Rattle.td_base.specs.declared.side.Side.TheVariants.{Primary}
pub use Rattle.td_base.specs.declared.span.Span.{Span}
pub use Rattle.ipv6_packet.proofs.LawProofs.{packet_is_spelled, packet_reads_back}
pub use Rattle.ipv6_packet.specs.Packets.{Fields}
unfoldable pub use Rattle.ipv6_packet.specs.Packets.{packet_bytes}
pub use Rattle.ipv6_packet.specs.Reads.{fields_in, is_packet}
pub use Rattle.icmp6.specs.Message.{echo_reply, echo_request, router_solicit}
pub use Rattle.icmp6.specs.declared.numbers.TheConstants.{ROUTER_HOP}
pub use Rattle.teredo_addr.proofs.AddressLaws.{server_in-teredo_ip}
pub use Rattle.teredo_addr.proofs.LawProofs.{link_local_tells, not_link}
pub use Rattle.teredo_addr.specs.Teredo.{all_routers, embedded, link_local, server_in, unspecified}
unfoldable pub use Rattle.teredo_addr.specs.Teredo.{is_teredo}
pub use Rattle.indications.specs.Leads.{nonce_of, origin_in}
pub use Rattle.bubble.proofs.LawProofs.{bubble_reads_back, message_is_carried, packet_is_payload, payload_is_spelled, payload_reads_back}
pub use Rattle.bubble.proofs.MadeInputs.{destination_made}
pub use Rattle.bubble.proofs.PacketsIn.{packet_there}
pub use Rattle.bubble.specs.Bubbles.{bubble_bytes, bubble_of, is_bubble}
pub use Rattle.bubble.specs.Laws.{CarriesMessage, ReadsBubble}
pub use Rattle.bubble.specs.Messages.{message_packet}
pub use Rattle.bubble.specs.PacketsIn.{destination_in, packet_given, source_in}
unfoldable pub use Rattle.bubble.specs.PacketsIn.{packet_in}
pub use Rattle.bubble.specs.Payloads.{Value, payload_at, value_written}
pub use Rattle.bubble.specs.Reads.{is_payload, payload_bytes, value_in}
pub use Rattle.bubble.specs.declared.bubbles.TheConstants.{BUBBLE_HOP}
pub use Rattle.teredo_node.specs.Journal.{Entry, Input, Journal, Words, arrived, epoch, from_six, given, is_changed, ticked, with_entry}
pub use Rattle.teredo_node.specs.MadeInputs.{AreMadeInputs, IsMadeInput}
pub use Rattle.teredo_node.specs.Sends.{releases, send}
pub use Rattle.teredo_node.specs.Step.{Send, part, rest_of}
pub use Rattle.teredo_node.specs.declared.fate.Fate.{Fate}
pub use Rattle.server_core.proofs.AmongServers.{from_link}
pub use Rattle.server_core.proofs.LawProofs.{advert_reads_back, each_is_from_client, each_tells_where_to, forwarded_reads_back}
pub use Rattle.server_core.proofs.Outgoing.{Told, of_read, told}
pub use Rattle.server_core.specs.Conditions.{is_own}
unfoldable pub use Rattle.server_core.specs.Conditions.{is_for_client, is_not_ours}
pub use Rattle.server_core.specs.Outgoing.{IsFromClient, IsOutgoing, adverts, goes_to_other, goes_to_own}
unfoldable pub use Rattle.server_core.specs.Server.{server_row}
pub use Rattle.server_core.specs.declared.server.ServerSettings.{ServerSettings}
pub use Rattle.peer_list.proofs.FromMentions.{kept, waiting_is_kept}
pub use Rattle.peer_list.specs.Judged.{is_barred, is_spent}
pub use Rattle.peer_list.specs.Mentions.{Mention, is_about}
pub use Rattle.peer_list.specs.Overdue.{due_by}
pub use Rattle.peer_list.specs.Peers.{known}
pub use Rattle.peer_list.specs.Waiting.{Listing}
pub use Rattle.qualify.proofs.LawProofs.{keeps_still}
pub use Rattle.qualify.specs.Advertisements.{Heard, heard}
pub use Rattle.qualify.specs.Qualification.{Qualification, qualification}
pub use Rattle.qualify.specs.Solicitations.{expected_in, is_cone, server_asked}
unfoldable pub use Rattle.qualify.specs.Solicitations.{expected, own_address, solicitation}
pub use Rattle.qualify.specs.Turns.{turn, turn_of}
pub use Rattle.qualify.specs.declared.phase.Phase.{Phase}
pub use Rattle.qualify.specs.declared.phase.Phase.TheVariants.{Cone, OffLine, Qualified, Restricted, Symmetric}
pub use Rattle.qualify.specs.declared.settings.Settings.{Settings}
pub use Rattle.client_rules.proofs.LawProofs.{each_address_is_told, each_handed, each_late, each_late_is_foreign as client_late_is_foreign, each_send, each_standing_is_made, fate_of_reception, queued_is_own, reception_is_warranted}
pub use Rattle.client_rules.proofs.PayloadPackets.{same_fields}
pub use Rattle.client_rules.specs.Bearings.{source_of}
pub use Rattle.client_rules.specs.Epochs.{IsOwnTo, QueuesOwn, WasHandedIn, WasQueued}
pub use Rattle.client_rules.specs.Handed.{HandingRule, HandsLate, HandsOver as ClientHands, HoldingRule, IsHanded, WasHeldIn, held, held_test, nothing, rule1, rule2, rule3}
pub use Rattle.client_rules.specs.Journals.{IsJournal, client_entry}
unfoldable pub use Rattle.client_rules.specs.Journals.{client_in, client_out}
pub use Rattle.client_rules.specs.MadeSends.{IsMadeStanding}
pub use Rattle.client_rules.specs.Reception.{Seen, reception_fate}
unfoldable pub use Rattle.client_rules.specs.Reception.{is_from_server, seen}
pub use Rattle.client_rules.specs.Sendings.{IsBubbleTo, IsCarriedTo, IsSending, asks_as_cone, bubbles, carries, released, solicits, tests, to_cone, to_trusted}
pub use Rattle.client_rules.specs.Standing.{standing_of}
unfoldable pub use Rattle.client_rules.specs.Standing.{standing_at}
pub use Rattle.client_rules.specs.Told.{IsToldAddress, sets_address}
pub use Rattle.client_rules.specs.Tries.{test_bytes}
unfoldable pub use Rattle.client_rules.specs.Tries.{test}
pub use Rattle.client_rules.specs.Warrants.{IsDirect, ReceivedOnlyIf}
pub use Rattle.client_rules.specs.declared.limits.TheConstants.{TEST_ID, TEST_SEQ}
pub use Rattle.relay_rules.proofs.ForeignSends.{read_as}
pub use Rattle.relay_rules.proofs.LawProofs.{each_send_is_foreign, fate_of_reception as fate_of_relay_reception}
pub use Rattle.relay_rules.proofs.MadePeers.{due_is}
pub use Rattle.relay_rules.specs.Bearings.{relay_mention}
unfoldable pub use Rattle.relay_rules.specs.Bearings.{relay_mentions}
pub use Rattle.relay_rules.specs.ForeignSends.{IsForeignSend}
pub use Rattle.relay_rules.specs.Journals.{IsRelayJournal, relay_entry, relay_first_peer}
unfoldable pub use Rattle.relay_rules.specs.Journals.{relay_in, relay_six, relay_tick}
pub use Rattle.relay_rules.specs.Reception.{relay_reception_row, relay_reception_step, relay_seen}
unfoldable pub use Rattle.relay_rules.specs.Reception.{relay_reception}
pub use Rattle.relay_rules.specs.Standing.{RelaySettings, RelayStanding, relay_known_in, relay_standing_of}
unfoldable pub use Rattle.relay_rules.specs.Standing.{relay_standing_at}
pub use Rattle.relay_rules.specs.Ticks.{relay_peer_of_due, relay_tick_step, relay_tries_peer}
pub use Rattle.relay_rules.specs.Transmission.{relay_given, relay_queues, relay_transmission_row, relay_transmission_step}
unfoldable pub use Rattle.relay_rules.specs.Transmission.{bubble_to, relay_transmission}
pub use Rattle.nat_kinds.proofs.LawProofs.{owner_is_reached}
pub use Rattle.nat_kinds.specs.Answer.{live_after, nat_answer, port_for}
pub use Rattle.nat_kinds.specs.History.{NatEntry, Restart}
pub use Rattle.nat_kinds.specs.Mappings.{live_port}
pub use Rattle.nat_kinds.specs.declared.refusal.NatRefusal.{NatRefusal}
pub use Rattle.nat_kinds.specs.declared.refusal.NatRefusal.TheVariants.{Hairpin}
pub use Rattle.nat_kinds.specs.declared.settings.NatSettings.{NatSettings}
pub use Rattle.native_host.proofs.LawProofs.{each_is_own_packet, each_is_reply}
pub use Rattle.native_host.specs.NativeSends.{IsReply}
pub use Rattle.native_host.specs.declared.limits.TheConstants.{HOST_HOP}
pub use Rattle.topology.proofs.LawProofs.{apart as addresses_are_apart, each_node, taken}
pub use Rattle.topology.proofs.Lists.{all_at, all_joined, all_right}
pub use Rattle.topology.specs.Chains.{Behind, NatPasts, Passing, after_passing, answered, comes_to, crossing, goes_in, inner_at, last_nat, let_in, nat_set_up, nats_from, outer_in, outs_at, passing, way_out}
pub use Rattle.topology.specs.NodeRules.{IsRelayNode, IsServerNode, has_address, is_taken}
pub use Rattle.topology.specs.Rows.{TopologyState}
pub use Rattle.topology.specs.Rules.{IsTopology, addresses_of}
pub use Rattle.topology.specs.Topology.{as_client, as_nat, as_relay, client_at, is_at, no_ip, node_at, own_ep, relay_at, settings_of_nat, side_at}
pub use Rattle.topology.specs.declared.client_node.ClientNode.{ClientNode}
pub use Rattle.topology.specs.declared.nat_node.NatNode.{NatNode}
pub use Rattle.topology.specs.declared.native_node.NativeNode.{NativeNode}
pub use Rattle.topology.specs.declared.node.Node.{Node}
pub use Rattle.topology.specs.declared.node.Node.TheVariants.{Client as client, Nat as nat, Native as native, Relay as relay, Server as server}
pub use Rattle.topology.specs.declared.relay_node.RelayNode.{RelayNode}
pub use Rattle.topology.specs.declared.server_node.ServerNode.{ServerNode}
pub use Rattle.events.specs.declared.event.Event.{Event}
pub use Rattle.history.specs.Full.{Full, Item, items_of, six, udp, wire}
pub use Rattle.legal.proofs.Asked.{brought}
pub use Rattle.legal.proofs.ItemsMade.{wire_stays}
pub use Rattle.legal.proofs.LawProofs.{client_journals, frame, gives_packet, grown as history_is_grown, is_recorded, items_are_made, made as each_has_one_maker, of_node, relay_journals, routes, wire_is_made}
pub use Rattle.legal.proofs.MadeInputs.{client_made, entry_input}
pub use Rattle.legal.proofs.MadeItems.{one_of}
pub use Rattle.legal.proofs.NatPasts.{set_up_past}
pub use Rattle.legal.proofs.Recorded.{nothing_in}
pub use Rattle.legal.proofs.RelayQueues.{given_has, is_queued, never_queued, queued_by}
pub use Rattle.legal.proofs.RouteEnds.{comes, inside_in, nat_in}
pub use Rattle.legal.specs.Actors.{IsActOf, IsGiven, delivered, hosted, ticks}
pub use Rattle.legal.specs.Emit.{by_way, entry_of, native_packet, part_of, relay_for}
pub use Rattle.legal.specs.GivesPacket.{GivesPacket}
pub use Rattle.legal.specs.Honest.{are_honest, are_honest_for, is_honest_event, is_honest_event_for, is_its_server}
pub use Rattle.legal.specs.Lab.{Lab, lab_of}
pub use Rattle.legal.specs.Laws.{HasOneMaker}
pub use Rattle.legal.specs.Legal.{Begun, Follows, Grown}
pub use Rattle.legal.specs.MadeWire.{IsMadeHistory, IsMadeItem, IsPacketItem, NamesRelay}
pub use Rattle.legal.specs.Makers.{Forges, Leaves, MadeBy, by_client, by_native, by_relay, by_server, copied, from_nowhere, strange, to_six}
pub use Rattle.legal.specs.Next.{input_of}
pub use Rattle.legal.specs.OfNode.{OfNode, acts, rests}
pub use Rattle.legal.specs.Past.{armed, forgotten, journal, nat_history, nat_pasts, now, place}
pub use Rattle.legal.specs.Recorded.{IsRecorded}
pub use Rattle.legal.specs.Routes.{IsLetIn, Reaches}
pub use Rattle.legal.specs.Settings.{client_settings, relay_settings, server_settings}
pub use Rattle.theory_settled.proofs.Earlier.{earlier}
pub use Rattle.theory_settled.proofs.ItsNodes.{address_there, client_there, own_is_own}
pub use Rattle.theory_settled.proofs.LawProofs.{address_is_own, client_is_there}
pub use Rattle.theory_settled.proofs.OwnAddress.{own_is_teredo}
pub use Rattle.theory_settled.specs.ItsNodes.{HasServer}
pub use Rattle.theory_settled.specs.OwnAddress.{IsOwnAddress}
pub use Rattle.theory_origins.specs.AtNatives.{EachWasPassedOn, IsFromSource, IsOwnMaking, WasPassedOn, bubble_of as its_bubble, handed_in, own_making, test_of}
pub use Rattle.theory_origins.specs.FromOutside.{EachHasOutsideOrigin, IsFromOutside, IsOfNative, put, relayed}
pub use Rattle.theory_origins.specs.Handed.{EachIsBrought, EachLateHandedIsForeign, IsBrought}
pub use Rattle.theory_origins.specs.Live.{EachIsHeld, EachIsLive, HoldsPort, IsHeld, IsLive, LeadsTo}
pub use Rattle.theory_origins.specs.Origin.{EachHasOrigin, HandedIn, HasOrigin, PutsFrom}
pub use Rattle.theory_origins.specs.Outside.{EachIsBroughtBy, HeldIn, IsBringer, IsBroughtBy, ReachesHost, at_once, hands_late, hands_now, late}
pub use Rattle.theory_origins.specs.Senders.{ComesFromClient, EachComesFromClient, EachEntryTellsWhereTo, EntryTellsWhereTo, IsForgedOrClients, forged, sent_by}
pub use Rattle.theory_origins.specs.Sources.{EachGoesElsewhere, EachHasOwnSource, GoesElsewhere, HasOwnSource, IsSender, outermost}
pub use Rattle.theory_origins.specs.Throughout.{HistoriesHaveOrigins, HonestForScenarios, HonestIsForEach, HonestScenarios, ScenariosHaveOrigins}
pub use Rattle.theory_origins.specs.Voices.{EachServerHasOwnVoice, IsOwnIfSent, IsOwnSend, is_sent_by, own_send, speaks_for}
