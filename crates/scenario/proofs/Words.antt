-- Where the words of this crate's proofs are defined: its files name them from here. `.ci/words` keeps this file.
pub use Rattle.std.proofs.Common.{Bool, Bor, Err, Global, Less, List, None, Ok, Option, Result, Some, String, [], ap, append-nil, append_assoc, arith, codes, cond, drop, false, get_or, if◌then◌else◌, inl, inr, le-leb, leb-true, length, length-append, map, nat_cmp, nat_le, nat_lt, not, option_map, refl, rules, string_bytes, subst, suc, sym, take, true, zero, ℕ, ℤ, ◌&&◌, ◌++◌, ◌+◌, ◌-◌, ◌<◌, ◌==◌, ◌||◌, ◌∙◌, ◌∷◌, ◌≡◌, ◌≢◌, ◌≤◌}
pub use Rattle.std.proofs.lemmas.Bool.{and_parts, lt-leb, not-true, or_parts, true≢false}
pub use Rattle.std.proofs.lemmas.Bool.Decides.{Decides-eqb}
pub use Rattle.std.proofs.lemmas.Cmp.{nat_list_cmp_total}
pub use Rattle.std.proofs.lemmas.Grind.{flat_map-append}
pub use Rattle.std.proofs.lemmas.List.{length-take, map-append, take_all, take_at}
pub use Rattle.std.proofs.lemmas.List.Quantifiers.{position-Some}
pub use Rattle.std.proofs.lemmas.Option.{same_Some, slice_get-get_or}
pub use Rattle.std.proofs.lemmas.Str.{IsUtf8-from_is_utf8, is_utf8-from_IsUtf8}
pub use Rattle.std.specs.Cmp.{nat_eq_equiv}
pub use Rattle.std.specs.Cmp.Lexicographic.{slice_cmp}
pub use Rattle.std.specs.List.{AllByRecursion, filter, find, list_all, list_any}
unfoldable pub use Rattle.std.specs.List.Sorted.{IsStrictlySortedBy}
pub use Rattle.std.specs.Map.{keys_of}
pub use Rattle.std.specs.Prelude.{IfNone, IfOk, IfSome, IsSome, IsUtf8, flat_map, is_some, ok_or, option_and_then, position, replicate, slice_get, unwrap_or, ◌⊎◌}
pub use Rattle.std.specs.Str.{is_utf8}
pub use Rattle.std.specs.String.{string_cmp}
pub use Rattle.toml.proofs.Views.{table_get}
pub use Rattle.toml.specs.Data.{Data, Items, Members, as_array, as_str, as_table, get_member, item, no_items}
pub use Rattle.toml.specs.Parse.{parse_document}
pub use Rattle.toml.specs.View.{items_view, members_view, table_view, view}
pub use Rattle.toml.specs.declared.value.Value.{Value}
pub use Rattle.td_base.proofs.LawProofs.{texts_are_made}
pub use Rattle.td_base.proofs.Lists.{all_map}
pub use Rattle.td_base.proofs.NumberValues.{bind_some}
pub use Rattle.td_base.proofs.ResultLaws.{bind_ok}
pub use Rattle.td_base.specs.Ep.{IsEp, same_ep, same_ep_equiv}
pub use Rattle.td_base.specs.Ip4.{IsIp4, same_ip, same_ip_equiv}
pub use Rattle.td_base.specs.Ip6.{IsIp6, same_ip6, same_ip6_equiv}
pub use Rattle.td_base.specs.Ip6Values.{ip6_of}
pub use Rattle.td_base.specs.Reach.{is_global, is_global6}
pub use Rattle.td_base.specs.Results.{◌>>=◌}
pub use Rattle.td_base.specs.Values.{ep_of, ip4_of, same_text}
pub use Rattle.td_base.specs.declared.endpoint.Ep.{Ep}
pub use Rattle.td_base.specs.declared.ipv4.Ip4.{Ip4}
pub use Rattle.td_base.specs.declared.ipv6.Ip6.{Ip6}
pub use Rattle.td_base.specs.declared.reach.Policy.TheVariants.{Strict}
pub use Rattle.teredo_addr.specs.Teredo.{is_teredo}
pub use Rattle.topology.proofs.Lists.{all_joined}
pub use Rattle.topology.proofs.NameLemmas.{one_name}
pub use Rattle.topology.specs.Named.{is_named, is_nat, is_relay, is_server}
unfoldable pub use Rattle.topology.specs.Named.{named}
pub use Rattle.topology.specs.Names.{name_text, same_name, same_name_equiv}
pub use Rattle.topology.specs.NodeNames.{begins_with_letter, is_name_byte}
unfoldable pub use Rattle.topology.specs.NodeNames.{is_name}
pub use Rattle.topology.specs.Rows.{TopologyState, no_nodes, with_client, with_nat, with_native, with_relay, with_server}
pub use Rattle.topology.specs.Rules.{AreDistinct, IsClient, IsIdle, IsOutside, IsRefreshRange, IsTopology, addresses_of, names_of, same_inside, sixes_of}
pub use Rattle.topology.specs.Topology.{as_nat, as_relay, as_server, name_of, nodes, relay_at}
pub use Rattle.topology.specs.declared.client_node.ClientNode.{ClientNode}
pub use Rattle.topology.specs.declared.nat_node.NatNode.{NatNode}
pub use Rattle.topology.specs.declared.nat_node.TheConstants.{IDLE_MAX_MS}
pub use Rattle.topology.specs.declared.native_node.NativeNode.{NativeNode}
pub use Rattle.topology.specs.declared.node.Node.{Node}
pub use Rattle.topology.specs.declared.node.Node.TheVariants.{Client as client, Nat as nat, Native as native, Relay as relay, Server as server}
pub use Rattle.topology.specs.declared.node_name.Name.{Name}
pub use Rattle.topology.specs.declared.node_name.TheConstants.{NAME_LEN}
pub use Rattle.topology.specs.declared.refresh_range.RefreshRange.{RefreshRange}
pub use Rattle.topology.specs.declared.refresh_range.TheConstants.{REFRESH_HIGH_MS, REFRESH_LOW_MS, REFRESH_MAX_MS, REFRESH_MIN_MS}
pub use Rattle.topology.specs.declared.relay_node.RelayNode.{RelayNode}
pub use Rattle.topology.specs.declared.server_node.ServerNode.{ServerNode}
pub use Rattle.topology.specs.declared.topology.TheConstants.{CLIENTS_MAX, NATIVES_MAX, NATS_MAX, RELAYS_MAX, SERVERS_MAX}
pub use Rattle.events.specs.EventText.{event_of}
pub use Rattle.events.specs.Events.{IsEvent}
pub use Rattle.events.specs.Scenario.{Scenario}
pub use Rattle.events.specs.declared.event.Event.{Event}
pub use Rattle.events.specs.declared.event.TheConstants.{EVENTS_MAX}
pub use Rattle.scenario.specs.Answers.{IsReadAs}
pub use Rattle.scenario.specs.EventLists.{each_event, event_at, few_events, texts_of}
unfoldable pub use Rattle.scenario.specs.EventLists.{events_of}
pub use Rattle.scenario.specs.Filling.{HasNoneBehind, HasNoneFrom, row_count}
pub use Rattle.scenario.specs.Fresh.{is_new_address, is_new_six, is_refresh, kind_of, natural, where_holds}
unfoldable pub use Rattle.scenario.specs.Fresh.{idle_of, is_free_address, is_free_inside, is_free_name, is_free_six, new_address, new_endpoint, new_inside, new_name, new_six, other_address, refresh_of, spelled_name}
pub use Rattle.scenario.specs.Keys.{integer_at, is_unknown, least, least_of, lesser, list_at, member_keys, name_at, only_keys, recognized, ruled, text_at, typed, whole_number_at, word_at}
unfoldable pub use Rattle.scenario.specs.Keys.{unknown_key}
pub use Rattle.scenario.specs.NodeKinds.{list_key, most_rows, row_keys, scenario_keys}
unfoldable pub use Rattle.scenario.specs.NodeName.{name}
pub use Rattle.scenario.specs.NodeRows.{cone_try_in, random_in, refresh_in, two_integers}
unfoldable pub use Rattle.scenario.specs.NodeRows.{client_of_table, nat_of_table, native_of_table, relay_of_table, server_of_table}
pub use Rattle.scenario.specs.NodeTables.{item_count, with_few, with_list, with_nodes, with_values}
unfoldable pub use Rattle.scenario.specs.NodeTables.{nodes_of, with_row, with_value}
pub use Rattle.scenario.specs.Paths.{key_path, row_path, shown_byte}
pub use Rattle.scenario.specs.Scenario.{document_of, written}
unfoldable pub use Rattle.scenario.specs.Scenario.{scenario_in, scenario_of}
pub use Rattle.scenario.specs.Told.{told}
pub use Rattle.scenario.specs.declared.node_kind.NodeKind.{NodeKind}
pub use Rattle.scenario.specs.declared.place.Place.{Place}
pub use Rattle.scenario.specs.declared.reader.Scenario.{Scenario as CodeScenario}
pub use Rattle.scenario.specs.declared.reader.TheConstants.{TEXT_MAX}
pub use Rattle.scenario.specs.declared.scenario_fault.ScenarioFault.{ScenarioFault}
pub use Rattle.scenario.specs.declared.scenario_fault.ScenarioFault.TheVariants.{NotToml}
