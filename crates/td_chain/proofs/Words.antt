-- Where the words of this crate's proofs are defined: its files name them from here. `.ci/words` keeps this file.
pub use Rattle.std.proofs.Common.{Bool, Err, List, None, Ok, Option, Result, Some, [], ap, append-nil, append_assoc, arith, cond, drop, false, inl, inr, length, map, refl, rules, set, subst, suc, sym, take, take_all, true, zero, ℕ, ⊎_elim, ◌++◌, ◌+◌, ◌-◌, ◌<◌, ◌∙◌, ◌∷◌, ◌≡◌, ◌≢◌, ◌≤◌, ◌⊎◌}
pub use Rattle.std.proofs.lemmas.Bool.{and_parts, eq-eqb, eqb-true, false≢true, ltb-false, ltb-true, ne_eqb}
pub use Rattle.std.proofs.lemmas.Bool.Decides.{nat_tests}
pub use Rattle.std.proofs.lemmas.List.{length-map, length-take, map-append, set-get_or, take-append-le, take_rest}
pub use Rattle.std.proofs.lemmas.List.Splits.{slice_split_first, slice_split_none}
pub use Rattle.std.proofs.lemmas.List.Sums.{fails_before_first, prefix_len-le-length}
pub use Rattle.std.proofs.lemmas.Option.{cond_some, same_Some, slice_get-map, slice_get_past, slice_get_read, slice_get_within}
pub use Rattle.std.proofs.lemmas.Result.{IfErr-weaker, err_from_is_err_and, on_ok_weaker}
pub use Rattle.std.specs.List.{AllByRecursion, list_all, position_or_len, slice_split}
pub use Rattle.std.specs.Prelude.{IfOk, IfSome, IsOk, OnErr, is_some, nat_lt, not, option_and_then, option_map, position, slice_get, ◌&&◌, ◌==◌}
pub use Rattle.td_base.specs.Options.{◌>>=◌}
pub use Rattle.td_base.specs.Values.{parts_at}
pub use Rattle.td_base.specs.declared.endpoint.Ep.{Ep}
pub use Rattle.td_base.specs.declared.ipv4.Ip4.{Ip4}
pub use Rattle.td_base.specs.declared.millis.Millis.{Millis}
pub use Rattle.nat_kinds.specs.Answer.{GivesAnswer, from_external, leaves_from, live_after, nat_answer}
pub use Rattle.nat_kinds.specs.Entering.{lets_in}
pub use Rattle.nat_kinds.specs.History.{Forget, NatEntry, Out, Restart}
pub use Rattle.nat_kinds.specs.Kinds.{is_cone_kind}
pub use Rattle.nat_kinds.specs.Mappings.{live_port}
pub use Rattle.nat_kinds.specs.Nat.{NatStandsFor, NatState, StandsAsBefore}
pub use Rattle.nat_kinds.specs.declared.outgoing.Outward.{Outward}
pub use Rattle.nat_kinds.specs.declared.refusal.NatRefusal.{NatRefusal}
pub use Rattle.nat_kinds.specs.declared.refusal.NatRefusal.TheVariants.{Full, Hairpin, NoMemory}
pub use Rattle.nat_kinds.specs.declared.settings.NatSettings.{NatSettings}
pub use Rattle.topology.proofs.Lists.{all_at, all_joined, slice_get_end, take_one_more}
pub use Rattle.topology.specs.Chains.{Behind, Crossing, NatPasts, Passing, after_passing, answered, chain_in, crossing, has_external, inner_at, nat_set_up, nats_from, outer_in, outs_at, passing, way_out}
pub use Rattle.topology.specs.Named.{is_nat}
pub use Rattle.topology.specs.Rows.{TopologyState}
pub use Rattle.topology.specs.Topology.{as_nat, nat_at, nat_settings, node_at, nodes, settings_of_nat}
pub use Rattle.topology.specs.declared.client_node.ClientNode.{ClientNode}
pub use Rattle.topology.specs.declared.node.Node.{Node}
pub use Rattle.topology.specs.declared.node.Node.TheVariants.{Client as client, Nat as nat, Native as native, Relay as relay, Server as server}
pub use Rattle.topology.specs.declared.topology.TheConstants.{NODES_MAX}
pub use Rattle.td_chain.specs.Ascent.{AreBefore, LeavesFromPort, out_of}
pub use Rattle.td_chain.specs.ChainRules.{is_apart, is_link}
unfoldable pub use Rattle.td_chain.specs.ChainRules.{is_chain}
pub use Rattle.td_chain.specs.ChainText.{comma, is_comma, pair_of, pairs_of}
pub use Rattle.td_chain.specs.Chains.{AreNatsOf, ChainsStandFor, ChainsState, Crosses, LacksMemory, NatIsThere, NatsKept, NatsReady, NatsStand, chain_out, inward_of, once_sent, set_ups, with_nat_entry}
pub use Rattle.td_chain.specs.Nestings.{behind_of}
pub use Rattle.td_chain.specs.Pairs.{AddsAll, AddsNone, AddsNotAll, AddsPair, joined}
pub use Rattle.td_chain.specs.Pass.{Passes}
pub use Rattle.td_chain.specs.Walk.{passed_by, passing_of, walk, walked_on}
pub use Rattle.td_chain.specs.declared.nesting.Nesting.{Nesting}
