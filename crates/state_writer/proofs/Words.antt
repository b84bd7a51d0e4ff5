-- Where the words of this crate's proofs are defined: its files name them from here. `.ci/words` keeps this file.
pub use Rattle.std.proofs.Common.{Bool, Err, List, None, Ok, Option, Result, Some, [], ap, arith, drop, false, get_or, if◌then◌else◌, inl, inr, length, refl, subst, suc, sym, take, true, zero, ℕ, ◌++◌, ◌+◌, ◌-◌, ◌<◌, ◌∙◌, ◌∷◌, ◌≡◌, ◌≤◌, ◌⊎◌}
pub use Rattle.std.proofs.lemmas.Bool.{false≢true}
pub use Rattle.std.proofs.lemmas.Grind.{flat_map-append}
pub use Rattle.std.proofs.lemmas.List.{drop_all, drop_more, map-append, take_rest}
pub use Rattle.std.proofs.lemmas.List.Concat.{flat_map-cons}
pub use Rattle.std.proofs.lemmas.Option.{get_or_from_slice_get, same_Some, slice_get_cases, slice_get_within}
pub use Rattle.std.proofs.lemmas.Result.{err_from_is_err_and}
pub use Rattle.std.specs.List.{flat_map}
pub use Rattle.std.specs.Prelude.{IfSome, codes, decimal, is_some, map, option_and_then, option_map, option_to_list, reverse, slice_get, ◌||◌}
pub use Rattle.td_base.specs.declared.endpoint.Ep.{Ep}
pub use Rattle.td_base.specs.declared.millis.Millis.{Millis}
pub use Rattle.td_outside.specs.Sink.{SinkState}
pub use Rattle.td_outside.specs.declared.fails.Failed.{Failed}
pub use Rattle.sink_lines.proofs.Written.{Writing-line, both_written, ended_early, nothing_wrote, wrote}
pub use Rattle.sink_lines.specs.Lines.{Writing}
pub use Rattle.teredo_node.specs.Journal.{is_changed}
unfoldable pub use Rattle.peer_list.specs.Listed.{listed, touched}
unfoldable pub use Rattle.peer_list.specs.Waiting.{first_among}
unfoldable pub use Rattle.qualify.specs.Qualification.{first_phase, qualification}
pub use Rattle.qualify.specs.declared.phase.Phase.{Phase}
pub use Rattle.qualify.specs.declared.phase.Phase.TheVariants.{Cone, Restricted}
unfoldable pub use Rattle.client_rules.specs.Bearings.{mentions}
unfoldable pub use Rattle.client_rules.specs.Journals.{client_due}
unfoldable pub use Rattle.client_rules.specs.Ticks.{next_due}
unfoldable pub use Rattle.relay_rules.specs.Bearings.{relay_mentions}
unfoldable pub use Rattle.relay_rules.specs.Journals.{relay_due}
pub use Rattle.nat_kinds.specs.declared.outgoing.Outward.{Outward}
pub use Rattle.topology.proofs.LawProofs.{each_node}
pub use Rattle.topology.specs.Chains.{Behind, NatPasts, Passing, nat_set_up, nats_from, outer_in, passing, way_out}
pub use Rattle.topology.specs.Named.{is_nat}
pub use Rattle.topology.specs.NodeRules.{IsClientNode}
pub use Rattle.topology.specs.Rows.{TopologyState}
pub use Rattle.topology.specs.Rules.{IsTopology}
pub use Rattle.topology.specs.Topology.{as_client, as_nat, client_at, node_at, nodes}
pub use Rattle.topology.specs.declared.client_node.ClientNode.{ClientNode}
pub use Rattle.topology.specs.declared.nat_node.NatNode.{NatNode}
pub use Rattle.topology.specs.declared.native_node.NativeNode.{NativeNode}
pub use Rattle.topology.specs.declared.node.Node.{Node}
pub use Rattle.topology.specs.declared.relay_node.RelayNode.{RelayNode}
pub use Rattle.topology.specs.declared.server_node.ServerNode.{ServerNode}
pub use Rattle.td_chain.specs.ChainRules.{is_chain}
pub use Rattle.td_chain.specs.Chains.{ChainsStandFor, ChainsState}
pub use Rattle.td_chain.specs.Walk.{passed_by, passing_of, walk, walked_on}
pub use Rattle.td_chain.specs.declared.let_out.LetOut.{LetOut}
pub use Rattle.history.specs.Full.{Full}
pub use Rattle.history.specs.Records.{marks_of, record_of}
pub use Rattle.history.specs.declared.mark.Mark.{Mark}
pub use Rattle.history.specs.declared.records.Record.{Record}
pub use Rattle.legal.proofs.LawProofs.{acted, kinds, of_node}
pub use Rattle.legal.specs.Actors.{Acted, does, idles}
pub use Rattle.legal.specs.Kinds.{Kind, Quiet, copied, faulted, forgot, handed, hosted, missing, none_left, passed, put, quiet, reached, restarted, settled, shut, strayed, ticks, uncopied}
pub use Rattle.legal.specs.Lab.{Lab}
pub use Rattle.legal.specs.Legal.{Follows, Grown}
pub use Rattle.legal.specs.OfNode.{OfNode, acts, rests}
pub use Rattle.legal.specs.Past.{is_restart, journal, nat_pasts, new_journal}
pub use Rattle.world.specs.World.{lab_in}
pub use Rattle.states.proofs.LawProofs.{passed_is_walked}
pub use Rattle.states.specs.Concerned.{concerned, concerned_at, forgotten_facts, has_changed, passed_facts, passing_facts, void_if, voids}
pub use Rattle.states.specs.Facts.{Fact, NodeFact, client_is, relay_is}
pub use Rattle.states.specs.Kept.{at_node, client_facts, facts_from, facts_of, lets_fact, port_fact, relay_facts}
pub use Rattle.states.specs.StateLines.{concerned_lines, fact_line}
pub use Rattle.states.specs.Walked.{walk_marked, walk_of}
pub use Rattle.state_query.specs.OwnFacts.{TellsFact, own_fact}
pub use Rattle.state_query.specs.PeerFacts.{TellsFacts, changed_facts}
pub use Rattle.state_writer.specs.KnownFacts.{known_facts}
pub use Rattle.state_writer.specs.Writes.{WritesFacts, first_facts}
