-- Where the words of this crate's proofs are defined: its files name them from here. `.ci/words` keeps this file.
pub use Rattle.byteorder.specs.Endian.{big_bytes}
pub use Rattle.std.proofs.Common.{Bool, Err, List, None, Ok, Option, Result, Some, [], ap, arith, cond, drop, false, filter, get_or, inl, inr, leb-false, length, map, not, refl, subst, suc, sym, true, zero, ℕ, ◌&&◌, ◌*◌, ◌++◌, ◌+◌, ◌<◌, ◌==◌, ◌||◌, ◌∙◌, ◌∷◌, ◌≡◌, ◌≢◌, ◌≤◌, ◌⊎◌}
pub use Rattle.std.proofs.lemmas.Bool.{and_from, and_parts, and_right, both_ways, eq-eqb, eqb-false, eqb-true, false_from_ne_true, false≢true, lt-ltb, not-true, not_from_false, or_left, or_right}
pub use Rattle.std.proofs.lemmas.Bool.Decides.{nat_tests}
pub use Rattle.std.proofs.lemmas.List.{length-map, take_rest}
pub use Rattle.std.proofs.lemmas.List.Quantifiers.{position-Some}
pub use Rattle.std.proofs.lemmas.List.Sums.{sum-map, sum_by-append, sum_by-cons}
pub use Rattle.std.proofs.lemmas.Option.{slice_get-get_or}
pub use Rattle.std.specs.List.{AllByRecursion, list_any, position_or_len}
pub use Rattle.std.specs.Option.{option_or}
pub use Rattle.std.specs.Prelude.{IfSome, filter_map, flat_map, is_some, option_and_then, option_map, option_to_list, position, slice_get, slice_index, sum, sum_by, unwrap_or}
pub use Rattle.td_base.specs.Bytes.{IsBytes}
pub use Rattle.td_base.specs.Ep.{IsEp, same_ep-self, same_ep-true, server_ep}
unfoldable pub use Rattle.td_base.specs.Ep.{same_ep}
pub use Rattle.td_base.specs.Ip4.{IsIp4, same_ip, same_ip-self}
pub use Rattle.td_base.specs.Ip6.{IsIp6, same_ip6, same_ip6-self, same_ip6-true}
pub use Rattle.td_base.specs.Reach.{is_global6, is_usable}
unfoldable pub use Rattle.td_base.specs.Reach.{is_link_local}
pub use Rattle.td_base.specs.declared.datagram.TheConstants.{DATAGRAM_MAX}
pub use Rattle.td_base.specs.declared.endpoint.Ep.{Ep}
pub use Rattle.td_base.specs.declared.ipv4.Ip4.{Ip4}
pub use Rattle.td_base.specs.declared.ipv6.Ip6.{Ip6}
pub use Rattle.td_base.specs.declared.reach.Policy.{Policy}
pub use Rattle.td_base.specs.declared.side.Side.{Side}
pub use Rattle.td_base.specs.declared.side.Side.TheVariants.{Primary}
pub use Rattle.td_base.specs.declared.span.Span.{Span}
pub use Rattle.ipv6_packet.proofs.LawProofs.{packet_is_bytes, packet_is_spelled, packet_reads_back}
pub use Rattle.ipv6_packet.specs.Packets.{Fields, packet_bytes}
pub use Rattle.ipv6_packet.specs.Reads.{fields_in, is_packet}
pub use Rattle.ipv6_packet.specs.declared.header.TheConstants.{HEADER, NEXT_ICMP, NEXT_NONE}
pub use Rattle.icmp6.proofs.FoundLaws.{read_found}
pub use Rattle.icmp6.specs.Grammar.{MessageBytes}
pub use Rattle.icmp6.specs.Message.{Message, echo_reply, echo_request, message_at}
pub use Rattle.teredo_addr.specs.Teredo.{embedded, server_in, unspecified}
unfoldable pub use Rattle.teredo_addr.specs.Teredo.{is_teredo}
pub use Rattle.teredo_addr.specs.declared.local.TheConstants.{ALL_ROUTERS}
pub use Rattle.indications.specs.Leads.{origin_in}
pub use Rattle.bubble.proofs.LawProofs.{bubble_reads_back, message_is_carried, packet_is_payload}
pub use Rattle.bubble.specs.Bubbles.{bubble_bytes, bubble_of}
unfoldable pub use Rattle.bubble.specs.Bubbles.{is_bubble}
pub use Rattle.bubble.specs.Laws.{ReadsPayload}
pub use Rattle.bubble.specs.Messages.{accepted, is_echo_reply, message_packet}
unfoldable pub use Rattle.bubble.specs.Messages.{message_in}
pub use Rattle.bubble.specs.PacketsIn.{packet_in}
unfoldable pub use Rattle.bubble.specs.PacketsIn.{destination_in, packet_given, source_in}
pub use Rattle.bubble.specs.Payloads.{Value, payload_at, value_written}
pub use Rattle.bubble.specs.Reads.{is_payload, value_in}
pub use Rattle.bubble.specs.declared.bubbles.TheConstants.{BUBBLE_HOP}
pub use Rattle.bubble.specs.declared.fault.PayloadFault.{PayloadFault}
pub use Rattle.teredo_node.proofs.FirstLines.{Each, by_lines, first_of_each, skip}
pub use Rattle.teredo_node.specs.Journal.{Entry, Input, Journal, Words, arrived, epoch, from_six, given, is_changed, ticked, with_entry}
pub use Rattle.teredo_node.specs.MadeInputs.{IsMadeInput}
pub use Rattle.teredo_node.specs.Rows.{first_line}
pub use Rattle.teredo_node.specs.Sends.{has_any, releases, send}
pub use Rattle.teredo_node.specs.Step.{Send, Step, part, rest_of}
pub use Rattle.teredo_node.specs.Words.{nonce_from}
pub use Rattle.teredo_node.specs.declared.fate.Fate.{Fate}
pub use Rattle.server_core.proofs.LawProofs.{each_ends_among_servers, forwarded_reads_back, one_output, rule_is_warranted}
pub use Rattle.server_core.specs.Bounds.{IsSilent, count}
pub use Rattle.server_core.specs.Conditions.{is_solicit}
unfoldable pub use Rattle.server_core.specs.Conditions.{is_for_client, is_looped, is_own, is_solicitation}
pub use Rattle.server_core.specs.Outgoing.{send_from}
pub use Rattle.server_core.specs.Outputs.{forwarded}
pub use Rattle.server_core.specs.RuleWarrants.{GoesToOther, GoesToOwn, GoesToSix, RuledOnlyIf}
pub use Rattle.server_core.specs.Rules.{rule_of, server_seen}
pub use Rattle.server_core.specs.Server.{by_payload, step_of}
unfoldable pub use Rattle.server_core.specs.Server.{server_row}
pub use Rattle.server_core.specs.declared.rules.Rule.{Rule}
pub use Rattle.server_core.specs.declared.rules.Rule.TheVariants.{Advert, Dropped, Forward, ForwardOrigin, Six}
pub use Rattle.peer_list.proofs.FewLemmas.{fewer_pass}
pub use Rattle.peer_list.proofs.FromMentions.{kept, known_none, peer_is, waiting_is_kept}
pub use Rattle.peer_list.proofs.LawProofs.{listed_are, of_a_touch, of_another, of_no_touch, one_entry, unlisted as peer_list_unlisted}
pub use Rattle.peer_list.proofs.TableLemmas.{young_now}
pub use Rattle.peer_list.specs.Judged.{is_barred}
unfoldable pub use Rattle.peer_list.specs.Judged.{is_full}
pub use Rattle.peer_list.specs.Laws.{peer_if}
pub use Rattle.peer_list.specs.Listed.{is_listed, is_younger, with_peer}
unfoldable pub use Rattle.peer_list.specs.Listed.{listed, touched}
pub use Rattle.peer_list.specs.Mentions.{Mention, is_about, is_peer}
pub use Rattle.peer_list.specs.Peers.{Peer, known, no_peer, peer_at}
pub use Rattle.peer_list.specs.declared.limits.TheConstants.{LISTED_MS}
pub use Rattle.qualify.specs.Advertisements.{Heard, advert_lines, heard, phase_line}
unfoldable pub use Rattle.qualify.specs.Advertisements.{advert_row}
pub use Rattle.qualify.specs.Qualification.{qualification}
pub use Rattle.qualify.specs.Solicitations.{is_qualified}
unfoldable pub use Rattle.qualify.specs.Solicitations.{own_address}
pub use Rattle.qualify.specs.declared.phase.Phase.{Phase}
pub use Rattle.qualify.specs.declared.settings.Settings.{Settings}
pub use Rattle.client_rules.proofs.LawProofs.{each_standing_is_made, fate_of_reception as client_rules_fate_of_reception, fate_of_transmission as client_rules_fate_of_transmission, journal_has_few as client_rules_journal_has_few, next_mentions, qualified_has_address, reception_is_warranted as client_rules_reception_is_warranted, transmission_is_warranted as client_rules_transmission_is_warranted, waiting_is_own}
pub use Rattle.client_rules.proofs.PayloadPackets.{same_fields}
pub use Rattle.client_rules.specs.Bearings.{mention, mentions}
pub use Rattle.client_rules.specs.Epochs.{IsOwnTo}
pub use Rattle.client_rules.specs.Journals.{IsJournal, entry}
unfoldable pub use Rattle.client_rules.specs.Journals.{client_in}
pub use Rattle.client_rules.specs.MadeSends.{IsMadeStanding}
pub use Rattle.client_rules.specs.Standing.{Standing, known_in, standing_of}
unfoldable pub use Rattle.client_rules.specs.Standing.{standing_at}
pub use Rattle.client_rules.specs.Tries.{direct_bubble}
unfoldable pub use Rattle.client_rules.specs.Tries.{test}
pub use Rattle.client_rules.specs.Warrants.{IsIndirect, IsSuspect, ReceivedOnlyIf}
pub use Rattle.client_rules.specs.declared.limits.TheConstants.{TEST_ID, TEST_SEQ}
pub use Rattle.relay_rules.proofs.ForeignSends.{read_as}
pub use Rattle.relay_rules.proofs.LawProofs.{fate_of_reception as relay_rules_fate_of_reception, fate_of_transmission as relay_rules_fate_of_transmission, journal_has_few as relay_rules_journal_has_few, reception_is_warranted as relay_rules_reception_is_warranted, transmission_is_warranted as relay_rules_transmission_is_warranted, waiting_is_foreign}
pub use Rattle.relay_rules.specs.Bearings.{relay_bearing_of, relay_mention}
unfoldable pub use Rattle.relay_rules.specs.Bearings.{relay_mentions}
pub use Rattle.relay_rules.specs.Journals.{IsRelayJournal, relay_entry, wordless_entry}
unfoldable pub use Rattle.relay_rules.specs.Journals.{relay_in, relay_six, relay_tick}
pub use Rattle.relay_rules.specs.Laws.{IsForeignTo}
pub use Rattle.relay_rules.specs.Reception.{RelaySeen, reception_lines, relay_reception_row, relay_reception_step}
unfoldable pub use Rattle.relay_rules.specs.Reception.{relay_reception, relay_seen}
pub use Rattle.relay_rules.specs.Standing.{RelaySettings, RelayStanding, relay_known_in, relay_standing_of}
unfoldable pub use Rattle.relay_rules.specs.Standing.{relay_standing_at}
pub use Rattle.relay_rules.specs.Transmission.{RelayGiven, relay_destination_lines, relay_packet_lines, relay_queues, relay_transmission_row, relay_transmission_step}
unfoldable pub use Rattle.relay_rules.specs.Transmission.{bubble_to, relay_given, relay_transmission}
pub use Rattle.relay_rules.specs.Warrants.{IsOfPeer, IsServed, RelayGoesLater, RelayGoesOut, RelayReceivedOnlyIf, RelaySentOnlyIf}
pub use Rattle.native_host.proofs.LawProofs.{each_is_own_packet, each_is_reply}
pub use Rattle.native_host.proofs.MadeReplies.{body_bytes, has_message, message_is}
pub use Rattle.native_host.specs.NativeSends.{IsReply}
pub use Rattle.native_host.specs.Natives.{native_in}
pub use Rattle.native_host.specs.declared.limits.TheConstants.{HOST_HOP}
pub use Rattle.topology.proofs.LawProofs.{apart as topology_apart, each_node}
pub use Rattle.topology.proofs.Lists.{all_at, all_joined, all_mapped, right_distinct}
pub use Rattle.topology.specs.NodeRules.{IsRelayNode, IsServerNode}
pub use Rattle.topology.specs.Rows.{TopologyState}
pub use Rattle.topology.specs.Rules.{AreDistinct, IsTopology}
pub use Rattle.topology.specs.Topology.{as_server, first_passing, is_at, node_at, nodes, own_ep, side_at}
pub use Rattle.topology.specs.declared.client_node.ClientNode.{ClientNode}
pub use Rattle.topology.specs.declared.native_node.NativeNode.{NativeNode}
pub use Rattle.topology.specs.declared.node.Node.{Node}
pub use Rattle.topology.specs.declared.node.Node.TheVariants.{Client as client, Nat as nat, Native as native, Relay as relay, Server as server}
pub use Rattle.topology.specs.declared.relay_node.RelayNode.{RelayNode}
pub use Rattle.topology.specs.declared.server_node.ServerNode.{ServerNode}
pub use Rattle.events.specs.Events.{IsEvent}
pub use Rattle.events.specs.declared.event.Event.{Event}
pub use Rattle.events.specs.declared.event.TheConstants.{ENTRY_NUMBER_MAX}
pub use Rattle.history.specs.Full.{Full, Item, Made, item_in, items_of, lost, sent, six, udp, wire}
pub use Rattle.history.specs.declared.act.Act.{Act}
pub use Rattle.legal.proofs.Delivered.{on_wire}
pub use Rattle.legal.proofs.Framed.{is_node-true}
pub use Rattle.legal.proofs.LawProofs.{advances_are_bounded, advances_fall, asked_for, client_journals as legal_client_journals, deliveries as legal_deliveries, grown, items_are_made, of_node as legal_of_node, relay_journals as legal_relay_journals, routes as legal_routes, wire_is_made}
pub use Rattle.legal.proofs.MadeInputs.{client_made, entry_input}
pub use Rattle.legal.proofs.NodeSums.{at_most, most}
pub use Rattle.legal.proofs.PeersFall.{all_that_pass}
pub use Rattle.legal.proofs.Reached.{has_it}
pub use Rattle.legal.proofs.RelayQueues.{given_has, is_queued, never_queued, queued_by}
pub use Rattle.legal.specs.Actors.{IsActOf, IsGiven, delivered, hosted, ticks}
pub use Rattle.legal.specs.Deliveries.{Delivery, IsMissed, IsReached, done_with, to_nobody, to_node}
pub use Rattle.legal.specs.Emit.{entry_of, is_at_place, made_outright, native_made, native_packet, outright, relay_for, six_made}
pub use Rattle.legal.specs.Kinds.{Delivers}
pub use Rattle.legal.specs.Lab.{Lab, lab_of}
pub use Rattle.legal.specs.Laws.{IsAskedFor, delivers, is_delivering, others}
pub use Rattle.legal.specs.Left.{left_to}
pub use Rattle.legal.specs.Legal.{Begun, Follows, GoesOn, Grown}
pub use Rattle.legal.specs.MadeWire.{IsMadeItem}
pub use Rattle.legal.specs.Makers.{MadeBy, by_client, by_native, by_relay, by_server, from_nowhere, to_six}
pub use Rattle.legal.specs.Next.{input_of}
pub use Rattle.legal.specs.OfNode.{OfNode, acts, rests}
pub use Rattle.legal.specs.OwnSends.{AreOfSends}
pub use Rattle.legal.specs.Past.{armed, began, first_open, first_undelivered, has_more, is_node, is_number, is_restart, journal, new_journal, now, was_delivered, with_entries, words}
pub use Rattle.legal.specs.Routes.{Reaches}
pub use Rattle.legal.specs.Settings.{client_settings, relay_settings, served, server_settings}
pub use Rattle.legal.specs.declared.left.TheConstants.{LEFT_MAX}
pub use Rattle.theory_settled.proofs.Earlier.{earlier}
pub use Rattle.theory_settled.proofs.ItsNodes.{own_is_own}
pub use Rattle.theory_settled.proofs.LawProofs.{address_is_own, client_is_there}
pub use Rattle.theory_settled.proofs.OwnAddress.{own_is_teredo}
pub use Rattle.theory_settled.specs.ItsNodes.{HasServer}
pub use Rattle.weights.specs.Burden.{burden, client_packet, relay_packet, undelivered_from, undelivered_items, waiting_packets, waits, waits_at, waits_from}
pub use Rattle.weights.specs.Eased.{burden_with, eased_burden, eased_weight, eases_at, eases_datagram, eases_for_relay, eases_output, eases_request, is_eased, is_of_relay, less, waiting_at, waiting_from, waiting_weight}
unfoldable pub use Rattle.weights.specs.Eased.{weight_with}
pub use Rattle.weights.specs.Left.{left, left_of_event}
pub use Rattle.weights.specs.Trust.{relay_among, trusted_by, trusts_as}
unfoldable pub use Rattle.weights.specs.Trust.{host_relay, is_trusted_for, relay_trusts}
pub use Rattle.weights.specs.Weights.{Freight, entry_weight, freight, freight_weight, is_echo_request, is_nat_at, is_origin_at_server, is_relay_at, is_server_at, is_some_server, output_weight, packet_weight, send_weight, six_weight, weight_at}
unfoldable pub use Rattle.weights.specs.Weights.{datagram_weight}
pub use Rattle.theory_storms.specs.ByKind.{FewByKind, SettleByKind, sum_from, waiting_in_client, waiting_in_relay}
pub use Rattle.theory_storms.specs.Deliveries.{AreNew, DeliversNew, EachLightens, EachSettlingEnds, EachStormEnds, GoesOnSettling, SettleDeliversNew}
pub use Rattle.theory_storms.specs.Falls.{EachFalls}
pub use Rattle.theory_storms.specs.Follow.{EachEases, FewFollow, FollowFromOne, FourFollow, IsAlone, NineFollow, NineForEach, NineSettle, NoMoreThanBefore, TrustLasts}
pub use Rattle.theory_storms.specs.Loads.{BurdenIsBounded, DeliveryExchanges, EachIsWeighed, EachServedIsWeighed, FewWait}
pub use Rattle.theory_storms.specs.NineThroughout.{HistoriesHaveNine}
pub use Rattle.theory_storms.specs.Throughout.{HistoriesHaveNoStorm, ScenariosHaveNoStorm}
