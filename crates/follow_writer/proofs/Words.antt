-- Where the words of this crate's proofs are defined: its files name them from here. `.ci/words` keeps this file.
pub use Rattle.std.proofs.Common.{Bool, Err, List, None, Ok, Option, Result, Some, [], ap, arith, drop, false, length, refl, subst, sym, take, true, ℕ, ◌++◌, ◌+◌, ◌-◌, ◌<◌, ◌∙◌, ◌∷◌, ◌≡◌, ◌≤◌}
pub use Rattle.std.proofs.lemmas.List.{take_rest}
pub use Rattle.std.proofs.lemmas.Result.{err_from_is_err_and}
pub use Rattle.std.specs.Prelude.{get_or, if◌then◌else◌, is_some, map, not, option_and_then, option_to_list, ◌||◌}
pub use Rattle.td_base.specs.declared.endpoint.Ep.{Ep}
pub use Rattle.td_base.specs.declared.ipv6.Ip6.{Ip6}
pub use Rattle.ipv6_packet.specs.Reads.{fields_in, is_packet}
pub use Rattle.bubble.specs.PacketsIn.{destination_in, source_in}
unfoldable pub use Rattle.bubble.specs.PacketsIn.{packet_given, packet_in}
pub use Rattle.bubble.specs.Payloads.{Value}
pub use Rattle.bubble.specs.Reads.{is_payload, value_in}
pub use Rattle.td_outside.specs.Sink.{SinkState}
pub use Rattle.sink_lines.proofs.Written.{Writing-line, both_written, ended_early, not_wrote, nothing_wrote, wrote}
pub use Rattle.sink_lines.specs.LineLaws.{WritesNothing-refl}
pub use Rattle.sink_lines.specs.Lines.{Writing}
pub use Rattle.teredo_node.proofs.FirstLines.{first_of_each}
pub use Rattle.teredo_node.specs.Journal.{Entry, Input, Journal, Words, arrived, from_six, given, ticked}
pub use Rattle.teredo_node.specs.declared.fate.Fate.{Fate}
pub use Rattle.peer_list.specs.Mentions.{Mention, concerns_peer, latest_peer}
pub use Rattle.peer_list.specs.Overdue.{due_by}
pub use Rattle.peer_list.specs.Waiting.{Listing}
pub use Rattle.qualify.specs.Advertisements.{advert_lines, heard, phase_line}
unfoldable pub use Rattle.qualify.specs.Advertisements.{advert_row}
pub use Rattle.qualify.specs.Qualification.{Qualification, qualification}
pub use Rattle.qualify.specs.declared.phase.Phase.{Phase}
pub use Rattle.qualify.specs.declared.settings.Settings.{Settings}
pub use Rattle.client_rules.specs.Bearings.{mention, mentions, source_of}
pub use Rattle.client_rules.specs.Journals.{client_entry, first_peer}
unfoldable pub use Rattle.client_rules.specs.Journals.{client_in, client_out, client_tick}
pub use Rattle.client_rules.specs.Reception.{Seen, datagram_lines, direct_lines, indirect_lines, packet_lines, reception_row, seen_of, server_lines}
unfoldable pub use Rattle.client_rules.specs.Reception.{reception_fate, seen}
pub use Rattle.client_rules.specs.Standing.{Standing, standing_of}
pub use Rattle.client_rules.specs.TickWarrants.{TickedOnlyIf}
pub use Rattle.client_rules.specs.Ticks.{Due, due_at, tick}
pub use Rattle.client_rules.specs.Transmission.{Given, destination_lines, given_of, host_lines, transmission_row}
pub use Rattle.relay_rules.specs.Bearings.{relay_mention, relay_mentions}
pub use Rattle.relay_rules.specs.Journals.{relay_entry, relay_first_peer}
unfoldable pub use Rattle.relay_rules.specs.Journals.{relay_in, relay_six, relay_tick}
pub use Rattle.relay_rules.specs.Reception.{RelaySeen, reception_lines, relay_reception_row, relay_seen_of}
unfoldable pub use Rattle.relay_rules.specs.Reception.{relay_seen}
pub use Rattle.relay_rules.specs.Standing.{RelaySettings, RelayStanding, relay_standing_of}
pub use Rattle.relay_rules.specs.TickWarrants.{RelayTickedOnlyIf}
pub use Rattle.relay_rules.specs.Ticks.{relay_tick_step}
pub use Rattle.relay_rules.specs.Transmission.{RelayGiven, relay_destination_lines, relay_given_of, relay_packet_lines, relay_transmission_row}
unfoldable pub use Rattle.relay_rules.specs.Transmission.{relay_given}
pub use Rattle.topology.specs.Rows.{TopologyState}
pub use Rattle.topology.specs.Topology.{node_at}
pub use Rattle.topology.specs.declared.client_node.ClientNode.{ClientNode}
pub use Rattle.topology.specs.declared.nat_node.NatNode.{NatNode}
pub use Rattle.topology.specs.declared.native_node.NativeNode.{NativeNode}
pub use Rattle.topology.specs.declared.node.Node.{Node}
pub use Rattle.topology.specs.declared.node.Node.TheVariants.{Client as client, Nat as nat, Native as native, Relay as relay, Server as server}
pub use Rattle.topology.specs.declared.relay_node.RelayNode.{RelayNode}
pub use Rattle.topology.specs.declared.server_node.ServerNode.{ServerNode}
pub use Rattle.events.specs.declared.event.Event.{Event}
pub use Rattle.history.specs.Full.{Full, Item, items_of, six, udp, wire}
pub use Rattle.history.specs.Records.{record_of}
pub use Rattle.history.specs.declared.records.Record.{Record}
pub use Rattle.legal.proofs.ItemsMade.{stays}
pub use Rattle.legal.specs.Emit.{entry_of}
pub use Rattle.legal.specs.Kinds.{Kind, Quiet, copied, faulted, forgot, handed, missing, none_left, passed, put, quiet, reached, restarted, settled, shut, strayed, uncopied}
pub use Rattle.legal.specs.Lab.{Draws, Lab}
pub use Rattle.legal.specs.Legal.{Follows, Grown}
pub use Rattle.legal.specs.Next.{dst_of, input_of, no_ep}
pub use Rattle.legal.specs.Past.{journal, words}
pub use Rattle.legal.specs.Settings.{client_settings, relay_settings}
pub use Rattle.lab_nodes.specs.PlayedNode.{row_of}
pub use Rattle.lab_nodes.specs.declared.played_node.PlayedNode.{PlayedNode}
pub use Rattle.world.specs.World.{StandsFor, WorldState, lab_in}
pub use Rattle.player.specs.Hearing.{IsNews}
pub use Rattle.player.specs.declared.hear_fault.HearFault.{HearFault}
pub use Rattle.states.proofs.LawProofs.{latest_is_concerned}
pub use Rattle.states.specs.Concerned.{peer_concerned}
pub use Rattle.states.specs.Facts.{Fact, PeerFact, client_knows, relay_knows}
pub use Rattle.states.specs.Kept.{peer_fact, peer_fact_of}
pub use Rattle.states.specs.PeerFates.{IsOnLatest, IsOnLatestIf, changes_client, changes_peer}
pub use Rattle.loads.specs.Ends.{saying_by}
pub use Rattle.loads.specs.FollowLines.{told_line}
pub use Rattle.loads.specs.Loads.{loads, releases_all}
pub use Rattle.loads.specs.Sayings.{gives_up, sayings_of}
pub use Rattle.loads.specs.declared.saying.Saying.{Saying}
pub use Rattle.load_keeper.specs.Effects.{client_effect, relay_effect}
pub use Rattle.load_keeper.specs.Hearing.{begins_anew, effect_at}
pub use Rattle.load_keeper.specs.Keeper.{IsEntryOf, IsPeerOf, IsToldOf, KeepsItsPacket, StandsForLoads, is_of_peer, node_if}
pub use Rattle.load_keeper.specs.declared.effect.Effect.{Effect}
pub use Rattle.load_keeper.specs.declared.effect.Effect.TheVariants.{GivesUp, Hears, Holds, Nothing, Queues, Tests, Touches}
pub use Rattle.load_keeper.specs.declared.load_keeper.LoadKeeper.{LoadKeeper}
pub use Rattle.load_ends.specs.Table.{TellsEnds}
pub use Rattle.load_ends.specs.declared.ends_table.EndsTable.{EndsTable}
pub use Rattle.follow_writer.specs.FollowAccount.{record_follows}
pub use Rattle.follow_writer.specs.Keeps.{FollowsPackets}
pub use Rattle.follow_writer.specs.Told.{latest_at, latest_peer_of, source_delivered, source_of_item}
pub use Rattle.follow_writer.specs.declared.follow_writer.FollowWriter.{FollowWriter}
