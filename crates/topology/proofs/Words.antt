-- Where the words of this crate's proofs are defined: its files name them from here. `.ci/words` keeps this file.
pub use Rattle.std.proofs.Common.{Bool, List, None, Option, Some, [], add_assoc, ap, arith, cond, false, length, length-append, map, nat_eq, refl, rules, subst, suc, sym, take, true, zero, zero-add, ℕ, ◌&&◌, ◌++◌, ◌+◌, ◌<◌, ◌==◌, ◌||◌, ◌∙◌, ◌∷◌, ◌≡◌, ◌≤◌}
pub use Rattle.std.proofs.Math.Bool.{and-false}
pub use Rattle.std.proofs.Props.{props}
pub use Rattle.std.proofs.lemmas.Bool.{and_parts, false≢true, or_left, or_parts, or_right}
pub use Rattle.std.proofs.lemmas.Bool.Decides.{Decides-and, Decides-eqb, same_from_decides}
pub use Rattle.std.proofs.lemmas.Grind.{flat_map-append}
pub use Rattle.std.proofs.lemmas.Iterator.Adapters.{position_from-zero}
pub use Rattle.std.proofs.lemmas.List.{length-map, length-take-le}
pub use Rattle.std.proofs.lemmas.List.Folds.{list_any-append}
pub use Rattle.std.proofs.lemmas.Option.{none-some, same_Some, slice_get-map, slice_get_read}
pub use Rattle.std.specs.Bool.{Decides}
pub use Rattle.std.specs.Cmp.Lexicographic.{pointwise, pointwise_decides}
pub use Rattle.std.specs.List.{AllByRecursion, list_any, position_from}
pub use Rattle.std.specs.Option.{option_or}
pub use Rattle.std.specs.Prelude.{flat_map, is_some, option_map, position, replicate, slice_get, unwrap_or, ◌-◌}
pub use Rattle.td_base.proofs.Lists.{all_map}
pub use Rattle.td_base.specs.Ep.{IsEp}
pub use Rattle.td_base.specs.Ip4.{IsIp4, same_ip, same_ip-true}
pub use Rattle.td_base.specs.Ip6.{IsIp6}
pub use Rattle.td_base.specs.Reach.{is_global}
pub use Rattle.td_base.specs.declared.endpoint.Ep.{Ep}
pub use Rattle.td_base.specs.declared.ipv4.Ip4.{Ip4}
pub use Rattle.td_base.specs.declared.ipv6.Ip6.{Ip6}
pub use Rattle.td_base.specs.declared.reach.Policy.TheVariants.{Strict}
pub use Rattle.topology.specs.Named.{any_kind, has_host, is_client_of, is_named, is_nat, is_relay, is_server}
unfoldable pub use Rattle.topology.specs.Named.{named}
pub use Rattle.topology.specs.Names.{name_text}
unfoldable pub use Rattle.topology.specs.Names.{same_name}
pub use Rattle.topology.specs.NodeRules.{AddressesAreApart, EachNodeKeepsRules, IsClientNode, IsNatNode, IsNativeNode, IsPublic, IsRelayNode, IsServerNode, KeepsRules, OwnAddressIsTaken, addresses_at}
pub use Rattle.topology.specs.Rows.{TopologyState}
pub use Rattle.topology.specs.Rules.{AreDistinct, IsClient, IsIdle, IsOutside, IsTopology, addresses_of, names_of}
pub use Rattle.topology.specs.Topology.{first_passing, is_at, is_behind, is_native, name_of, nodes}
pub use Rattle.topology.specs.declared.client_node.ClientNode.{ClientNode}
pub use Rattle.topology.specs.declared.nat_node.NatNode.{NatNode}
pub use Rattle.topology.specs.declared.native_node.NativeNode.{NativeNode}
pub use Rattle.topology.specs.declared.node.Node.{Node}
pub use Rattle.topology.specs.declared.node.Node.TheVariants.{Client as client, Nat as nat, Native as native, Relay as relay, Server as server}
pub use Rattle.topology.specs.declared.node_name.Name.{Name}
pub use Rattle.topology.specs.declared.node_name.TheConstants.{NAME_LEN}
pub use Rattle.topology.specs.declared.relay_node.RelayNode.{RelayNode}
pub use Rattle.topology.specs.declared.server_node.ServerNode.{ServerNode}
pub use Rattle.topology.specs.declared.topology.TheConstants.{NODES_MAX}
