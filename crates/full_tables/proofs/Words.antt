-- Where the words of this crate's proofs are defined: its files name them from here. `.ci/words` keeps this file.
pub use Rattle.std.proofs.Common.{Bool, Err, List, None, Ok, Option, Result, Some, [], ap, arith, cond, eqb-true, false, filter, filter_map, find, inl, inr, leb-true, length, lt-ltb, ltb-true, not, refl, replicate, subst, suc, sym, true, zero, ℕ, ◌&&◌, ◌*◌, ◌++◌, ◌+◌, ◌<◌, ◌==◌, ◌||◌, ◌∙◌, ◌∷◌, ◌≡◌, ◌≢◌, ◌≤◌}
pub use Rattle.std.proofs.lemmas.Bool.{and_parts, and_right, false≢true}
pub use Rattle.std.proofs.lemmas.Bool.Decides.{nat_tests}
pub use Rattle.std.specs.List.{AllByRecursion, list_all, list_any}
pub use Rattle.std.specs.Prelude.{is_some, nat_lt, slice_get, unwrap_or}
pub use Rattle.td_base.specs.Bytes.{IsBytes}
pub use Rattle.td_base.specs.Ep.{server_ep}
unfoldable pub use Rattle.td_base.specs.Ep.{same_ep}
pub use Rattle.td_base.specs.Ip4.{IsIp4, same_ip-self}
unfoldable pub use Rattle.td_base.specs.Ip4.{same_ip}
pub use Rattle.td_base.specs.Ip6.{IsIp6, same_ip6-self, same_ip6-true}
unfoldable pub use Rattle.td_base.specs.Ip6.{cmp_ip6, same_ip6}
unfoldable pub use Rattle.td_base.specs.Reach.{is_global, is_global6, is_link_local, is_usable}
pub use Rattle.td_base.specs.declared.endpoint.Ep.{Ep}
pub use Rattle.td_base.specs.declared.ipv4.Ip4.{Ip4}
pub use Rattle.td_base.specs.declared.ipv6.Ip6.{Ip6}
pub use Rattle.td_base.specs.declared.reach.Policy.{Policy}
pub use Rattle.td_base.specs.declared.reach.Policy.TheVariants.{Strict}
pub use Rattle.td_base.specs.declared.side.Side.TheVariants.{Primary}
pub use Rattle.td_base.specs.declared.span.Span.{Span}
pub use Rattle.ipv6_packet.proofs.LawProofs.{packet_reads_back}
pub use Rattle.ipv6_packet.specs.Laws.{ReadsPacket}
pub use Rattle.ipv6_packet.specs.Packets.{Fields}
unfoldable pub use Rattle.ipv6_packet.specs.Packets.{fields_of, packet_at, packet_bytes}
unfoldable pub use Rattle.ipv6_packet.specs.Reads.{fields_in, is_big, is_packet}
unfoldable pub use Rattle.icmp6.specs.Blocks.{options_at}
unfoldable pub use Rattle.icmp6.specs.Checksum.{checksum_of}
unfoldable pub use Rattle.icmp6.specs.Layout.{message_bytes}
unfoldable pub use Rattle.icmp6.specs.Message.{advert_at, echo_reply_at, echo_request_at, message_at, solicit_at}
unfoldable pub use Rattle.icmp6.specs.Options.{option_len, whole_options}
pub use Rattle.teredo_addr.proofs.LawProofs.{teredo_tells}
unfoldable pub use Rattle.teredo_addr.specs.Hidden.{hidden_ep, shown_at}
pub use Rattle.teredo_addr.specs.Laws.{IsTeredoOf}
unfoldable pub use Rattle.teredo_addr.specs.Reaching.{is_reachable}
unfoldable pub use Rattle.teredo_addr.specs.Teredo.{cone_in, embedded, flags_in, has_cone, is_teredo, link_local, server_in, teredo_ip}
unfoldable pub use Rattle.indications.specs.Indications.{auth_at, head_at, lead_at, origin_at}
unfoldable pub use Rattle.indications.specs.Leads.{is_confirmed, is_keyed}
pub use Rattle.bubble.specs.Bubbles.{bubble_bytes}
unfoldable pub use Rattle.bubble.specs.Bubbles.{is_bubble}
unfoldable pub use Rattle.bubble.specs.Messages.{is_ill_formed, message_in}
unfoldable pub use Rattle.bubble.specs.PacketsIn.{destination_in, packet_given, packet_in, source_in}
unfoldable pub use Rattle.bubble.specs.Payloads.{payload_at}
unfoldable pub use Rattle.bubble.specs.Reads.{is_payload, value_in}
pub use Rattle.teredo_node.specs.Journal.{Entry, Journal, Words, arrived, given, with_entry}
pub use Rattle.teredo_node.specs.Sends.{send, sending}
pub use Rattle.teredo_node.specs.Step.{Send, Step}
unfoldable pub use Rattle.server_core.specs.Conditions.{is_for_client, is_for_server, is_forged, is_looped, is_not_ours, is_other_kind, is_own, is_solicitation, is_unusable}
unfoldable pub use Rattle.server_core.specs.Outputs.{advert_bytes, forwarded}
unfoldable pub use Rattle.server_core.specs.Rules.{rule_of}
unfoldable pub use Rattle.server_core.specs.Server.{server_row}
pub use Rattle.peer_list.proofs.LawProofs.{listed_are, unlisted}
pub use Rattle.peer_list.proofs.TableLemmas.{young_now}
unfoldable pub use Rattle.peer_list.specs.Judged.{due_of, holds_most, is_barred, is_fresh, is_full, is_spent, is_trusted_at}
pub use Rattle.peer_list.specs.Listed.{is_recent_touch, is_younger, with_peer}
unfoldable pub use Rattle.peer_list.specs.Listed.{has_room, is_listed, listed, stay, touched}
pub use Rattle.peer_list.specs.Mentions.{Mention, is_peer, is_touch_of}
pub use Rattle.peer_list.specs.Peers.{known, no_peer}
unfoldable pub use Rattle.peer_list.specs.Peers.{peer_at}
unfoldable pub use Rattle.peer_list.specs.Waiting.{cmp_due, first_among, kept_among}
pub use Rattle.peer_list.specs.declared.limits.TheConstants.{LISTED_MS, PEERS_MAX}
pub use Rattle.qualify.proofs.LawProofs.{keeps_still}
unfoldable pub use Rattle.qualify.specs.Advertisements.{advert_row, prefixes_in}
pub use Rattle.qualify.specs.Qualification.{Qualification}
unfoldable pub use Rattle.qualify.specs.Qualification.{first_phase, qualification}
pub use Rattle.qualify.specs.Solicitations.{is_qualified}
unfoldable pub use Rattle.qualify.specs.Solicitations.{due_step, expected, own_address, solicitation}
unfoldable pub use Rattle.qualify.specs.Turns.{interval_of}
pub use Rattle.qualify.specs.declared.settings.Settings.{Settings}
pub use Rattle.client_rules.proofs.LawProofs.{next_mentions}
pub use Rattle.client_rules.specs.Bearings.{mention, mentions}
unfoldable pub use Rattle.client_rules.specs.Bearings.{mentions as client_mentions}
pub use Rattle.client_rules.specs.Journals.{entry}
unfoldable pub use Rattle.client_rules.specs.Journals.{client_due, client_in, client_out, client_tick}
unfoldable pub use Rattle.client_rules.specs.Reception.{is_from_server, reception as client_reception, reception_fate, seen as client_seen}
pub use Rattle.client_rules.specs.Standing.{Standing}
unfoldable pub use Rattle.client_rules.specs.Standing.{standing_at, standing_at as client_standing_at}
unfoldable pub use Rattle.client_rules.specs.Ticks.{due_at as client_due_at, next_due}
pub use Rattle.client_rules.specs.Transmission.{Given, given_of, queues, transmission_row, transmission_step}
unfoldable pub use Rattle.client_rules.specs.Transmission.{given as client_given, transmission as client_transmission}
pub use Rattle.client_rules.specs.Tries.{both_bubbles, tries_by, try_words}
unfoldable pub use Rattle.client_rules.specs.Tries.{test, try_sends}
pub use Rattle.client_rules.specs.Warrants.{GoesLater}
pub use Rattle.nat_kinds.specs.Answer.{live_after, nat_answer, port_for}
pub use Rattle.nat_kinds.specs.Entering.{lets_in}
pub use Rattle.nat_kinds.specs.History.{NatEntry, Out}
pub use Rattle.nat_kinds.specs.Mappings.{live_port}
pub use Rattle.nat_kinds.specs.declared.refusal.NatRefusal.{NatRefusal}
pub use Rattle.topology.specs.Chains.{Crossing, Passing, answered, crossing, goes_in, nat_set_up, outs_at, passing}
pub use Rattle.topology.specs.Named.{has_host}
unfoldable pub use Rattle.topology.specs.Names.{same_name}
unfoldable pub use Rattle.topology.specs.NodeNames.{is_name}
pub use Rattle.topology.specs.Rows.{TopologyState}
pub use Rattle.topology.specs.Rules.{IsClient, IsRefreshRange, IsTopology}
pub use Rattle.topology.specs.Topology.{node_at, own_ep}
pub use Rattle.topology.specs.declared.client_node.ClientNode.{ClientNode}
pub use Rattle.topology.specs.declared.nat_node.NatNode.{NatNode}
pub use Rattle.topology.specs.declared.node.Node.{Node}
pub use Rattle.topology.specs.declared.node.Node.TheVariants.{Client as client, Server as server}
pub use Rattle.topology.specs.declared.node_name.Name.{Name}
pub use Rattle.topology.specs.declared.server_node.ServerNode.{ServerNode}
pub use Rattle.events.specs.Events.{IsEvent}
pub use Rattle.events.specs.declared.event.Event.{Event}
pub use Rattle.history.specs.Full.{Full, Item, item_in, items_of, sent, udp, wire}
pub use Rattle.legal.proofs.LawProofs.{grown as history_is_grown}
pub use Rattle.legal.specs.Actors.{IsActOf, delivered}
pub use Rattle.legal.specs.Emit.{Sendings, by_way, closed, crossing_unless, entry_of, marked, or_loss, outright, reaches, route, route_in, six_made}
pub use Rattle.legal.specs.Lab.{Draws, Lab, flat_lab}
pub use Rattle.legal.specs.Legal.{Begun, Follows, GoesOn, Grown}
pub use Rattle.legal.specs.Next.{acts, address_of, blank, data_packet, delivers_item, delivers_to, hands_in, no_ep, numbered}
unfoldable pub use Rattle.legal.specs.Next.{next}
pub use Rattle.legal.specs.Past.{armed, armed_after, going, has_more, has_sends, journal, nat_history, nat_pasts, now, place, with_entries, words}
pub use Rattle.legal.specs.Settings.{client_settings, server_settings}
pub use Rattle.theory_settled.specs.Clients.{asks_at, client_address, nat_behind}
pub use Rattle.theory_settled.specs.Settled.{IsSettled}
pub use Rattle.theory_first_packets.proofs.LawProofs.{full_receiver_hears_nothing, full_sender_drops}
pub use Rattle.theory_first_packets.proofs.tables.GivenPacket.{entry_given, given_here, waits_for_it}
pub use Rattle.theory_first_packets.proofs.tables.Known.{not_full, not_spent, untried}
pub use Rattle.theory_first_packets.proofs.tables.Lists.{same_number}
pub use Rattle.theory_first_packets.specs.FirstPacket.{GoesBetween, HasArrived, HostHandsIn}
pub use Rattle.theory_first_packets.specs.NoRoom.{IsDropped, IsTurnedAway, IsUnheard}
pub use Rattle.theory_first_packets.specs.Schedules.{AreFresh, HasNoFault, IsComplete, is_fault}
pub use Rattle.full_tables.specs.FullTables.{FullReceiverFails, FullSenderFails, IsFirstWithRoom, Trial}
