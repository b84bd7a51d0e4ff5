-- Where the words of this crate's proofs are defined: its files name them from here. `.ci/words` keeps this file.
pub use Rattle.rand_chacha.specs.ChaCha.{ChaCha, key_of, of_seed, word_at}
pub use Rattle.std.proofs.Common.{Bool, Err, List, None, Ok, Option, Result, Some, [], ap, append_assoc, arith, drop, drop-cons, false, if◌then◌else◌, inl, inr, length, map, min, refl, rules, set, subst, suc, sym, take, take_all, true, zero, ℕ, ◌%◌, ◌++◌, ◌+◌, ◌-◌, ◌<◌, ◌^◌, ◌∙◌, ◌∷◌, ◌≡◌, ◌≢◌, ◌≤◌}
pub use Rattle.std.proofs.Math.Seq.{take-append_seam}
pub use Rattle.std.proofs.lemmas.Bool.{cases_eq, cases_lt, false≢true, le-ltb, lt-ltb, ltb-false}
pub use Rattle.std.proofs.lemmas.Bool.Decides.{nat_tests}
pub use Rattle.std.proofs.lemmas.List.{drop_at, length-map, length-set, length-take, length-take-le, map-append, take_min}
pub use Rattle.std.proofs.lemmas.List.Sums.{sum-map, sum_by-append, sum_by-cons}
pub use Rattle.std.proofs.lemmas.Option.{get_or_from_slice_get, same_Some, slice_get-get_or, slice_get-map, slice_get_read, slice_get_within}
pub use Rattle.std.proofs.lemmas.Result.{err_from_is_err_and, on_err_weaker}
pub use Rattle.std.specs.List.{AllByRecursion}
pub use Rattle.std.specs.Prelude.{IfOk, IfSome, OnErr, filter, flat_map, get_or, is_some, nat_lt, option_and_then, option_map, option_to_list, replicate, slice_get, sum, sum_by, ◌==◌}
pub use Rattle.td_base.proofs.WriteLemmas.{fills, has_room}
pub use Rattle.td_base.specs.declared.datagram.TheConstants.{DATAGRAM_MAX}
pub use Rattle.td_base.specs.declared.endpoint.Ep.{Ep}
pub use Rattle.td_base.specs.declared.ipv6.Ip6.{Ip6}
pub use Rattle.td_base.specs.declared.millis.Millis.{Millis}
pub use Rattle.td_base.specs.declared.reach.Policy.{Policy}
pub use Rattle.td_base.specs.declared.refusals.NoMemory.{NoMemory}
pub use Rattle.td_base.specs.declared.side.Side.{Side}
pub use Rattle.td_base.specs.declared.side.Side.TheVariants.{Primary, Secondary}
pub use Rattle.ipv6_packet.proofs.PacketLaws.{packet_len}
pub use Rattle.ipv6_packet.specs.Packets.{Fields, packet_at, packet_bytes}
unfoldable pub use Rattle.ipv6_packet.specs.Reads.{fields_in}
pub use Rattle.ipv6_packet.specs.declared.fault.PacketFault.{PacketFault}
unfoldable pub use Rattle.icmp6.specs.Layout.{message_bytes}
pub use Rattle.icmp6.specs.Message.{echo_request}
unfoldable pub use Rattle.teredo_addr.specs.Teredo.{is_teredo}
pub use Rattle.indications.specs.Leads.{origin_in}
pub use Rattle.bubble.specs.PacketsIn.{destination_in, source_in}
pub use Rattle.bubble.specs.Reads.{value_in}
pub use Rattle.td_outside.specs.Link.{Datagram, Receives, next_came}
pub use Rattle.teredo_node.specs.Journal.{Entry, Input, Journal, Words, arrived, from_six, given, ticked, with_entry}
pub use Rattle.teredo_node.specs.Sends.{has_any}
pub use Rattle.teredo_node.specs.Step.{Send, Step}
pub use Rattle.teredo_node.specs.declared.fate.Fate.{Fate}
pub use Rattle.td_turns.specs.Turn.{AnswersArrival, Pumps}
pub use Rattle.td_turns.specs.declared.turn.PumpFault.{PumpFault}
pub use Rattle.td_turns.specs.declared.turn.Pumped.{Pumped}
pub use Rattle.td_turns.specs.declared.turn.Pumped.TheVariants.{Took}
pub use Rattle.server_core.specs.Endpoint.{MeetsRow}
pub use Rattle.server_core.specs.Server.{server_row}
pub use Rattle.server_core.specs.declared.server.ServerSettings.{ServerSettings}
pub use Rattle.peer_list.specs.Listed.{listed}
pub use Rattle.peer_list.specs.Mentions.{Mention}
pub use Rattle.peer_list.specs.Overdue.{IsNoSooner}
pub use Rattle.peer_list.specs.Peers.{Peer, known}
pub use Rattle.qualify.specs.Advertisements.{heard}
pub use Rattle.qualify.specs.Generator.{after_words, chacha20}
unfoldable pub use Rattle.qualify.specs.Generator.{words_of}
pub use Rattle.qualify.specs.Qualification.{qualification}
pub use Rattle.qualify.specs.Qualifier.{IsSettings}
pub use Rattle.qualify.specs.declared.settings.Settings.{Settings}
pub use Rattle.client_rules.proofs.LawProofs.{fate_of_reception, reception_is_warranted}
pub use Rattle.client_rules.specs.Journals.{client_due, client_entry}
unfoldable pub use Rattle.client_rules.specs.Journals.{client_in}
pub use Rattle.client_rules.specs.Reception.{is_good_origin, reception_fate, reception_step}
unfoldable pub use Rattle.client_rules.specs.Reception.{reception, seen}
pub use Rattle.client_rules.specs.Standing.{Standing, standing_of}
pub use Rattle.client_rules.specs.TakenPlaces.{TakesPlace, holds, lists, to_hold, to_list}
pub use Rattle.client_rules.specs.Warrants.{ReceivedOnlyIf}
pub use Rattle.client_core.proofs.LawProofs.{client_is_read}
pub use Rattle.client_core.specs.Client.{AsBefore, ClientStandsFor, Does, generator_of, listed_peers, next_entry, own_due, settings_of, words_ahead}
pub use Rattle.client_core.specs.Laws.{SaysWhatJournalSays}
pub use Rattle.client_core.specs.declared.client.Client.{Client}
pub use Rattle.relay_rules.proofs.LawProofs.{fate_of_transmission}
pub use Rattle.relay_rules.specs.Bearings.{relay_mentions}
pub use Rattle.relay_rules.specs.Journals.{relay_entry}
unfoldable pub use Rattle.relay_rules.specs.Journals.{relay_six}
pub use Rattle.relay_rules.specs.Standing.{RelaySettings, relay_standing_of}
pub use Rattle.relay_rules.specs.Transmission.{relay_given, relay_transmission_row, relay_transmission_step}
unfoldable pub use Rattle.relay_rules.specs.Transmission.{relay_transmission}
pub use Rattle.relay_core.proofs.LawProofs.{relay_is_read}
pub use Rattle.relay_core.specs.Relay.{RelayAsBefore, RelayDoes, RelayStandsFor, next_relay_entry, relay_listed_peers, relay_settings_of}
pub use Rattle.relay_core.specs.declared.relay.Relay.{Relay}
pub use Rattle.topology.proofs.Lists.{slice_get_end, take_one_more}
pub use Rattle.topology.specs.Chains.{Behind, way_out}
pub use Rattle.topology.specs.Rows.{TopologyState}
pub use Rattle.topology.specs.Rules.{IsClient, IsTopology}
pub use Rattle.topology.specs.Topology.{node_at, nodes, own_ep}
pub use Rattle.topology.specs.declared.client_node.ClientNode.{ClientNode}
pub use Rattle.topology.specs.declared.native_node.NativeNode.{NativeNode}
pub use Rattle.topology.specs.declared.node.Node.{Node}
pub use Rattle.topology.specs.declared.node.Node.TheVariants.{Client as client, Nat as nat, Native as native, Relay as relay, Server as server}
pub use Rattle.topology.specs.declared.relay_node.RelayNode.{RelayNode}
pub use Rattle.topology.specs.declared.topology.TheConstants.{NODES_MAX}
pub use Rattle.history.specs.Full.{Full, Made}
pub use Rattle.legal.proofs.MadeInputs.{entry_input}
pub use Rattle.legal.specs.Emit.{by_way, direct, entry_of, handed_by, outright, part_of, sendings, six_made, tick_due}
pub use Rattle.legal.specs.Lab.{Lab, lab_on, stream_key}
unfoldable pub use Rattle.legal.specs.Lab.{draws}
pub use Rattle.legal.specs.Left.{waits_until}
pub use Rattle.legal.specs.Next.{DueNode, data_packet, earlier, least_due}
pub use Rattle.legal.specs.Past.{armed, journal, now, words}
pub use Rattle.legal.specs.Settings.{client_settings, relay_settings}
pub use Rattle.weights.specs.Burden.{client_packet, relay_packet}
pub use Rattle.lab_nodes.specs.Answers.{AnswersCall, AnswersOrWants, ClientStarves, RelayStarves, SendsOrKeeps, WantsOnly}
pub use Rattle.lab_nodes.specs.Call.{dst_lent, entry_in, input_lent}
pub use Rattle.lab_nodes.specs.Changes.{ChangesAt, PlayedAsBefore, Restarts}
pub use Rattle.lab_nodes.specs.Due.{AreQuiet, AreQuietBut, AreQuietWith, IsQuietNode, NoneIsDue, NoneIsSooner, due_as, tick_moment, tick_of}
pub use Rattle.lab_nodes.specs.DueMoments.{EachSumIsOfThePast, all_played_due, played_due}
pub use Rattle.lab_nodes.specs.Laws.{EachClientKeepsRules}
pub use Rattle.lab_nodes.specs.Memory.{takes_memory}
pub use Rattle.lab_nodes.specs.OneArrival.{coming_side, told_of}
pub use Rattle.lab_nodes.specs.Outlet.{sendings_by, six_sent, source_at}
pub use Rattle.lab_nodes.specs.PlayedNode.{AreOf, AreReady, IsClientOf, IsKept, IsReady, IsRelayOf, NodesOf, past_of, row_of}
pub use Rattle.lab_nodes.specs.Waits.{EachWaitsAsInThePast, peers_packets, played_waits, played_waits_at}
pub use Rattle.lab_nodes.specs.declared.asked.Asked.{Asked}
pub use Rattle.lab_nodes.specs.declared.asked.SixPacket.{SixPacket}
pub use Rattle.lab_nodes.specs.declared.call.Call.{Call}
pub use Rattle.lab_nodes.specs.declared.due.Due.{Due, Due as Found}
pub use Rattle.lab_nodes.specs.declared.one_arrival.OneArrival.{OneArrival}
pub use Rattle.lab_nodes.specs.declared.outlet.Outlet.TheVariants.{Own}
pub use Rattle.lab_nodes.specs.declared.played_node.PlayedNode.{PlayedNode}
