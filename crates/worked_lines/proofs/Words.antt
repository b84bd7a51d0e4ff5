-- Where the words of this crate's proofs are defined: its files name them from here. `.ci/words` keeps this file.
unfoldable pub use Rattle.hex.specs.Hex.{encode_with}
unfoldable pub use Rattle.rand_chacha.specs.Block.{block_word, column_round, diagonal_round, double_rounds, quarter_round}
unfoldable pub use Rattle.rand_core.specs.Steps.{u32_at}
pub use Rattle.std.proofs.Common.{List, Some, [], refl, ℕ, ◌++◌, ◌∷◌, ◌≡◌}
unfoldable pub use Rattle.std.specs.Fmt.{digits}
unfoldable pub use Rattle.std.specs.Net.Text.{hex, hex_groups_text}
pub use Rattle.std.specs.Prelude.{codes, false, true, ◌+◌}
unfoldable pub use Rattle.nat_kinds.specs.Way.{endpoint_number, same_way}
pub use Rattle.nat_kinds.specs.declared.kind.NatKind.{NatKind}
pub use Rattle.topology.specs.Chains.{Behind}
pub use Rattle.topology.specs.declared.client_node.ClientNode.{ClientNode}
pub use Rattle.topology.specs.declared.nat_node.NatNode.{NatNode}
pub use Rattle.topology.specs.declared.native_node.NativeNode.{NativeNode}
pub use Rattle.topology.specs.declared.relay_node.RelayNode.{RelayNode}
pub use Rattle.topology.specs.declared.server_node.ServerNode.{ServerNode}
pub use Rattle.events.specs.Scenario.{Scenario}
pub use Rattle.history.specs.Full.{Full}
pub use Rattle.legal.specs.Lab.{Lab, lab_on}
unfoldable pub use Rattle.legal.specs.Lab.{draws}
pub use Rattle.states.specs.StateLines.{each_lines, last_lines, records_line}
pub use Rattle.loads.specs.FollowLines.{end_lines, follow_lines}
pub use Rattle.loads.specs.declared.load.Load.TheVariants.{Packet, ReplyTo}
pub use Rattle.theory_loads.specs.Carried.{bytes_of_load}
unfoldable pub use Rattle.worked_scenarios.proofs.Playing.{playing}
pub use Rattle.worked_scenarios.proofs.Scenes.{ep, ip, ip6, name1, name2, play_in}
