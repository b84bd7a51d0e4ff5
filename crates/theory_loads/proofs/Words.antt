-- Where the words of this crate's proofs are defined: its files name them from here. `.ci/words` keeps this file.
pub use Rattle.std.proofs.Common.{Bool, Contains, Err, List, None, Ok, Option, Result, Some, [], ap, append-nil, arith, drop, false, filter, filter_map, get_or, if◌then◌else◌, inl, inr, is_some, length, length-append, length-drop, map, not, option_and_then, option_map, option_to_list, refl, slice_get, subst, suc, sym, take_all, true, unwrap_or, zero, ℕ, ◌&&◌, ◌++◌, ◌+◌, ◌-◌, ◌<◌, ◌∙◌, ◌∷◌, ◌≡◌, ◌≤◌, ◌⊎◌}
pub use Rattle.std.proofs.lemmas.List.{map-append}
pub use Rattle.std.proofs.lemmas.List.Elements.{All-contains, All-from_recursion, Contains-append_right}
pub use Rattle.std.specs.List.{AllByRecursion}
pub use Rattle.std.specs.Prelude.{IfSome}
pub use Rattle.td_base.proofs.Lists.{all_map}
pub use Rattle.td_base.specs.Bytes.{IsBytes}
pub use Rattle.td_base.specs.Ep.{IsEp, same_ep}
pub use Rattle.td_base.specs.Ip6.{same_ip6}
pub use Rattle.td_base.specs.Reach.{is_global6}
pub use Rattle.td_base.specs.declared.datagram.TheConstants.{DATAGRAM_MAX}
pub use Rattle.td_base.specs.declared.endpoint.Ep.{Ep}
pub use Rattle.td_base.specs.declared.ipv6.Ip6.{Ip6}
pub use Rattle.td_base.specs.declared.side.Side.{Side}
pub use Rattle.td_base.specs.declared.span.Span.{Span}
pub use Rattle.ipv6_packet.specs.Packets.{packet_bytes}
pub use Rattle.ipv6_packet.specs.Reads.{fields_in, is_big, is_packet}
pub use Rattle.icmp6.specs.Message.{Message, echo_request}
pub use Rattle.teredo_addr.specs.Teredo.{embedded, unspecified}
pub use Rattle.bubble.proofs.LawProofs.{packet_is_payload, payload_is_spelled}
pub use Rattle.bubble.specs.Laws.{ReadsPayload}
pub use Rattle.bubble.specs.Messages.{message_in}
pub use Rattle.bubble.specs.PacketsIn.{destination_in, source_in}
unfoldable pub use Rattle.bubble.specs.PacketsIn.{packet_given, packet_in}
pub use Rattle.bubble.specs.Payloads.{Value, payload_at, value_written}
pub use Rattle.bubble.specs.Reads.{is_ok_payload, value_or}
unfoldable pub use Rattle.bubble.specs.Reads.{is_payload, value_in}
pub use Rattle.bubble.specs.declared.fault.PayloadFault.{PayloadFault}
pub use Rattle.teredo_node.proofs.FirstLines.{first_of_each}
pub use Rattle.teredo_node.specs.Journal.{Entry, Input, Journal, Words, arrived, from_six, given, ticked, with_entry}
pub use Rattle.teredo_node.specs.MadeInputs.{IsMadeInput}
pub use Rattle.teredo_node.specs.Sends.{releases, send}
pub use Rattle.teredo_node.specs.Step.{Send, Step, part, rest_of}
pub use Rattle.teredo_node.specs.declared.fate.Fate.{Fate}
pub use Rattle.server_core.proofs.LawProofs.{fate_of_row, forwarded_reads_back, rule_is_warranted}
pub use Rattle.server_core.specs.Laws.{row_fates}
pub use Rattle.server_core.specs.Outputs.{forwarded}
pub use Rattle.server_core.specs.RuleWarrants.{RuledOnlyIf}
pub use Rattle.server_core.specs.Rules.{rule_of, server_seen}
pub use Rattle.server_core.specs.Server.{by_payload, step_of}
unfoldable pub use Rattle.server_core.specs.Server.{server_row}
pub use Rattle.server_core.specs.declared.rules.Rule.{Rule}
pub use Rattle.server_core.specs.declared.rules.Rule.TheVariants.{Advert, Dropped, Forward, ForwardOrigin, Six}
pub use Rattle.server_core.specs.declared.server.ServerSettings.{ServerSettings}
pub use Rattle.peer_list.specs.Judged.{held_from, is_barred, is_spent}
pub use Rattle.peer_list.specs.Mentions.{Mention}
pub use Rattle.peer_list.specs.Overdue.{due_by}
pub use Rattle.peer_list.specs.Peers.{Peer, known}
pub use Rattle.peer_list.specs.Waiting.{Listing}
pub use Rattle.peer_list.specs.declared.held.Held.{Held}
pub use Rattle.qualify.specs.Advertisements.{advert_lines, heard, phase_line}
unfoldable pub use Rattle.qualify.specs.Advertisements.{advert_row}
pub use Rattle.qualify.specs.Qualification.{Qualification, qualification}
pub use Rattle.qualify.specs.declared.phase.Phase.{Phase}
pub use Rattle.qualify.specs.declared.settings.Settings.{Settings}
pub use Rattle.client_rules.proofs.LawProofs.{each_handed, fate_of_reception, waiting_is_own}
pub use Rattle.client_rules.specs.Bearings.{mentions, source_of}
pub use Rattle.client_rules.specs.Epochs.{IsOwnTo}
pub use Rattle.client_rules.specs.Journals.{IsJournal, client_entry, first_peer}
unfoldable pub use Rattle.client_rules.specs.Journals.{client_in, client_out, client_tick}
pub use Rattle.client_rules.specs.Reception.{Seen, datagram_lines, direct_lines, indirect_lines, packet_lines, reception_row, reception_step, seen, server_lines}
unfoldable pub use Rattle.client_rules.specs.Reception.{reception, reception_fate}
pub use Rattle.client_rules.specs.Standing.{Standing, known_in, standing_of}
unfoldable pub use Rattle.client_rules.specs.Standing.{standing_at}
pub use Rattle.client_rules.specs.TickWarrants.{TickedOnlyIf}
pub use Rattle.client_rules.specs.Ticks.{due_at, tick}
pub use Rattle.client_rules.specs.Transmission.{Given, destination_lines, host_lines, queues, transmission_row, transmission_step}
unfoldable pub use Rattle.client_rules.specs.Transmission.{transmission}
pub use Rattle.client_rules.specs.Warrants.{SentOnlyIf}
pub use Rattle.relay_rules.proofs.ForeignSends.{read_as}
pub use Rattle.relay_rules.proofs.LawProofs.{reception_is_warranted, waiting_is_foreign}
pub use Rattle.relay_rules.specs.Bearings.{relay_mentions}
pub use Rattle.relay_rules.specs.Journals.{relay_entry, relay_first_peer}
unfoldable pub use Rattle.relay_rules.specs.Journals.{relay_in, relay_six, relay_tick}
pub use Rattle.relay_rules.specs.Laws.{IsForeignTo}
pub use Rattle.relay_rules.specs.Reception.{RelaySeen, reception_lines, relay_reception_row, relay_reception_step}
unfoldable pub use Rattle.relay_rules.specs.Reception.{relay_reception, relay_seen}
pub use Rattle.relay_rules.specs.Standing.{RelaySettings, RelayStanding, relay_known_in, relay_standing_of}
unfoldable pub use Rattle.relay_rules.specs.Standing.{relay_standing_at}
pub use Rattle.relay_rules.specs.TickWarrants.{RelayTickedOnlyIf}
pub use Rattle.relay_rules.specs.Ticks.{relay_tick_step, relay_tries_peer}
pub use Rattle.relay_rules.specs.Transmission.{RelayGiven, relay_destination_lines, relay_packet_lines, relay_queues, relay_transmission_row, relay_transmission_step}
unfoldable pub use Rattle.relay_rules.specs.Transmission.{relay_given, relay_transmission}
pub use Rattle.relay_rules.specs.Warrants.{RelayReceivedOnlyIf, RelaySentOnlyIf}
pub use Rattle.native_host.specs.Natives.{Native, echo_of, echoed, just_kept, native_row}
unfoldable pub use Rattle.native_host.specs.Natives.{native_in}
pub use Rattle.topology.proofs.Lists.{all_at, all_joined, all_right}
pub use Rattle.topology.specs.Rows.{TopologyState}
pub use Rattle.topology.specs.Rules.{IsTopology}
pub use Rattle.topology.specs.Topology.{as_client, as_relay, client_at, node_at, relay_at, side_at}
pub use Rattle.topology.specs.declared.client_node.ClientNode.{ClientNode}
pub use Rattle.topology.specs.declared.native_node.NativeNode.{NativeNode}
pub use Rattle.topology.specs.declared.node.Node.{Node}
pub use Rattle.topology.specs.declared.node.Node.TheVariants.{Client as client, Nat as nat, Native as native, Relay as relay, Server as server}
pub use Rattle.topology.specs.declared.relay_node.RelayNode.{RelayNode}
pub use Rattle.events.specs.declared.event.Event.{Event}
pub use Rattle.events.specs.declared.verb.Verb.{Verb}
pub use Rattle.history.specs.Full.{Full, Item, Made, item_in, items_of, lost, sent, six, udp, wire}
pub use Rattle.history.specs.declared.act.Act.{Act}
pub use Rattle.history.specs.declared.mark.Mark.{Mark}
pub use Rattle.legal.proofs.MadeInputs.{entry_input}
pub use Rattle.legal.specs.Actors.{Acted, IsActOf, IsGiven, delivered, does, hosted, idles, ticks}
pub use Rattle.legal.specs.Emit.{entry_of, native_made, part_of, reaches, route, six_made}
pub use Rattle.legal.specs.Kinds.{Hands, Kind, Quiet, copied, handed, put, quiet, reached}
pub use Rattle.legal.specs.Lab.{Lab}
pub use Rattle.legal.specs.Legal.{Follows, Grown}
pub use Rattle.legal.specs.MadeWire.{IsMadeItem, NamesRelay}
pub use Rattle.legal.specs.Next.{dst_of, input_of, no_ep, plain}
pub use Rattle.legal.specs.OwnSends.{AreOfSends, AreOfSendsAnd, AreOwn}
pub use Rattle.legal.specs.Past.{is_node, is_restart, journal, now, with_entries, words}
pub use Rattle.legal.specs.Settings.{client_settings, relay_settings, server_settings}
pub use Rattle.theory_origins.proofs.Records.{Latest}
pub use Rattle.theory_origins.proofs.SentOn.{act_made}
pub use Rattle.theory_origins.specs.Outside.{hands_late, hands_now}
pub use Rattle.loads.proofs.NamedEntries.{AreNamed, IsNameOf, TellsPackets, mentions_named, packets_tell}
pub use Rattle.loads.proofs.Renamed.{known_renamed}
pub use Rattle.loads.specs.Images.{held_with, packet_by, packet_for, peer_with}
pub use Rattle.loads.specs.Loads.{Loads, answer_to, entry_loads, entry_peer, is_handing_in, load_at, load_given, load_goes_on, loads, made_loads, mentions_at, mentions_if, released_records, releases_all}
pub use Rattle.loads.specs.Numbered.{HeldRecord, held_for, held_record, mentions_by, number_in, numbered_mentions, waiting_records, with_number, with_record_numbers}
pub use Rattle.loads.specs.Sayings.{arrives_if, dropped_records, ended_records, ends_holding, goes_by, hands_over_held, is_late, is_same_source, makes_reply, marks_by, said_of_ended, said_of_given, said_of_released, said_to_end, saying, sayings_of, source_of_entry, way_by_fate}
pub use Rattle.loads.specs.declared.load.Load.{Load}
pub use Rattle.loads.specs.declared.load.Load.TheVariants.{Packet, ReplyTo}
pub use Rattle.loads.specs.declared.saying.Saying.{Saying}
pub use Rattle.loads.specs.declared.way.Way.{Way}
pub use Rattle.loads.specs.declared.way.Way.TheVariants.{Arrives, Ends, Goes}
pub use Rattle.theory_loads.specs.Arrivals.{EachArrivalIsHanded, GetsOut, IsHandedOut, to_client, to_native}
pub use Rattle.theory_loads.specs.Carried.{EachCarriesItsPacket, EachHasBytes, HasBytesIfLoaded, HasBytesOf, bytes_of_load, packet_of_host, packet_on_wire, packets_of_hosts}
