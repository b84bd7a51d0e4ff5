-- Where the words of this crate's proofs are defined: its files name them from here. `.ci/words` keeps this file.
pub use Rattle.std.proofs.Common.{Bool, Err, List, None, Ok, Option, Result, Some, [], ap, append-nil, append_assoc, arith, false, length, refl, subst, suc, sym, true, ℕ, ◌*◌, ◌++◌, ◌+◌, ◌-◌, ◌<◌, ◌∙◌, ◌∷◌, ◌≡◌, ◌≤◌}
pub use Rattle.std.proofs.lemmas.Bool.{false≢true}
pub use Rattle.std.proofs.lemmas.Grind.{common_steps}
pub use Rattle.std.proofs.lemmas.List.{map-append}
pub use Rattle.std.proofs.lemmas.Result.{err_from_is_err_and}
pub use Rattle.std.specs.List.{cons_option, list_all, list_any, range_with_len}
pub use Rattle.std.specs.Prelude.{codes, decimal, flat_map, is_some, map, not, option_and_then, option_map, unwrap_or, ◌&&◌, ◌==◌, ◌||◌}
pub use Rattle.td_base.specs.Ep.{server_ep}
pub use Rattle.td_base.specs.Ip6.{same_ip6}
pub use Rattle.td_base.specs.declared.endpoint.Ep.{Ep}
pub use Rattle.td_base.specs.declared.ipv6.Ip6.{Ip6}
pub use Rattle.teredo_addr.specs.Teredo.{embedded, has_cone, unspecified}
pub use Rattle.td_outside.specs.Causes.{Rose}
pub use Rattle.td_outside.specs.Sink.{SinkState}
pub use Rattle.sink_lines.proofs.Written.{BeginsLines-more, BeginsLines-then, WritesLines-then, none_written, nothing_wrote}
pub use Rattle.sink_lines.specs.Lines.{BeginsLines, WritesLines, Writing}
pub use Rattle.teredo_node.specs.Journal.{Journal}
pub use Rattle.peer_list.specs.Judged.{holds_most, is_barred, is_fresh, is_trusted_at}
pub use Rattle.peer_list.specs.Listed.{has_room, is_listed}
pub use Rattle.peer_list.specs.Peers.{Peer, known, known as known_in}
pub use Rattle.qualify.specs.Qualification.{qualification}
unfoldable pub use Rattle.qualify.specs.Solicitations.{own_address}
pub use Rattle.qualify.specs.declared.settings.Settings.{Settings}
pub use Rattle.client_rules.specs.Bearings.{mentions}
pub use Rattle.client_core.specs.Client.{ClientStandsFor, settings_of}
pub use Rattle.nat_kinds.specs.Kinds.{is_cone_kind, is_symmetric}
pub use Rattle.topology.proofs.Counts.{count}
pub use Rattle.topology.proofs.LawProofs.{each_node}
pub use Rattle.topology.specs.Chains.{Behind, last_nat, nat_set_up, nats_from, outer_in, way_out}
pub use Rattle.topology.specs.Named.{has_host, is_nat}
pub use Rattle.topology.specs.Rows.{TopologyState}
pub use Rattle.topology.specs.Rules.{IsTopology}
pub use Rattle.topology.specs.Topology.{as_nat, as_relay, node_at, nodes, server_at}
pub use Rattle.topology.specs.declared.client_node.ClientNode.{ClientNode}
pub use Rattle.topology.specs.declared.native_node.NativeNode.{NativeNode}
pub use Rattle.topology.specs.declared.node.Node.{Node}
pub use Rattle.topology.specs.declared.node.Node.TheVariants.{Client as client, Nat as nat, Native as native, Relay as relay, Server as server}
pub use Rattle.topology.specs.declared.relay_node.RelayNode.{RelayNode}
pub use Rattle.topology.specs.declared.topology.TheConstants.{NODES_MAX}
pub use Rattle.td_chain.specs.Chains.{ChainsStandFor, ChainsState, chain_out}
pub use Rattle.history.specs.Full.{Full, udp}
pub use Rattle.report.proofs.Joined.{alone, before}
pub use Rattle.report.proofs.Printed.{length_after, printed}
pub use Rattle.report.specs.Lines.{node_text}
pub use Rattle.legal.specs.Emit.{reach_node, route}
pub use Rattle.legal.specs.Lab.{Draws, Lab}
pub use Rattle.legal.specs.Next.{address_at, address_of}
pub use Rattle.legal.specs.Past.{journal, nat_pasts, now}
pub use Rattle.legal.specs.Settings.{primary_of}
pub use Rattle.theory_settled.specs.Clients.{asks_at, client_address}
pub use Rattle.theory_origins.specs.Sources.{outermost}
pub use Rattle.lab_nodes.specs.PlayedNode.{row_of}
pub use Rattle.lab_nodes.specs.declared.played_node.PlayedNode.{PlayedNode}
pub use Rattle.world.proofs.Routes.{there_at}
pub use Rattle.world.specs.Route.{IsThere, by_route}
pub use Rattle.world.specs.World.{StandsFor, WorldState, lab_in}
pub use Rattle.world.specs.declared.route.Route.{Route}
pub use Rattle.world.specs.declared.route.Route.TheVariants.{Astray, Closed, Reaches}
pub use Rattle.theory_ways.specs.Ways.{has_symmetric, is_all_cone}
pub use Rattle.theory_reaching.specs.BetweenClients.{between_clients_row}
unfoldable pub use Rattle.theory_reaching.specs.BetweenClients.{two_clients}
pub use Rattle.theory_reaching.specs.Conditions.{clients_of, ends_at, has_room_for_both, is_on, is_settled_with, keeps_packets, peers_of}
unfoldable pub use Rattle.theory_reaching.specs.Conditions.{is_led_to, is_settled}
pub use Rattle.theory_reaching.specs.FromNative.{from_native_row}
pub use Rattle.theory_reaching.specs.Reach.{reach_between}
unfoldable pub use Rattle.theory_reaching.specs.Reach.{reach_of}
pub use Rattle.theory_reaching.specs.ReachLines.{Said, lines_of_said, said_from, said_line, said_of_all, said_of_each, said_total}
pub use Rattle.theory_reaching.specs.Speaks.{is_elsewhere, is_from, way_to}
unfoldable pub use Rattle.theory_reaching.specs.Speaks.{bubbles_stray, speaks_to, strays_to}
unfoldable pub use Rattle.theory_reaching.specs.ThroughRelay.{relayed}
pub use Rattle.theory_reaching.specs.ToNative.{to_native_row}
pub use Rattle.theory_reaching.specs.Words.{reach_word}
pub use Rattle.theory_reaching.specs.declared.clients_table.TwoClients.{TwoClients}
pub use Rattle.theory_reaching.specs.declared.relay_table.Relayed.{Relayed}
pub use Rattle.theory_reaching.specs.declared.word.Reach.{Reach}
pub use Rattle.reach_query.specs.Asked.{AreAlike, AreAlikeOfTwo}
pub use Rattle.reach_query.specs.Hosts.{IsClientHere, IsHostHere, goes_to, host_number, node_of}
pub use Rattle.reach_query.specs.PairLines.{AreCounted, AreCountsWithin, SaysPairs, counted_pairs}
pub use Rattle.reach_query.specs.declared.hosts.ClientHere.{ClientHere}
pub use Rattle.reach_query.specs.declared.hosts.HostHere.{HostHere}
pub use Rattle.reach_query.specs.declared.pair_counts.PairCounts.{PairCounts}
