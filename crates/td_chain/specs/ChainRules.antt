-- Which chains of NATs may be asked for.
use Rattle.std.specs.Prelude.{◌&&◌, not, nat_lt, nat_le, Bool, true, List, [], ◌∷◌, length, is_some}
use Rattle.std.specs.List.{list_all}
use Rattle.topology.specs.declared.client_node.ClientNode.{ClientNode}
use Rattle.topology.specs.Rows.{TopologyState}
use Rattle.topology.specs.Named.{is_nat}
use Rattle.topology.specs.Topology.{node_at}
use Rattle.topology.specs.Chains.{Behind, is_inner, way_out, inner_at}
use Rattle.td_chain.specs.declared.rules.TheConstants.{WAY_MAX}

-- both are NATs, the inner one stands first, and no more than WAY_MAX NATs are on its way out
abbrev pub is_link : TopologyState → (chain : List Behind) → Behind → Bool
is_link t chain b = is_nat (node_at t b.inner) && (is_nat (node_at t b.outer) && (nat_lt b.inner b.outer && nat_le (length (way_out chain b.inner)) WAY_MAX))

-- each NAT is the inner one once
abbrev pub each_once : List Behind → Bool
each_once [] = true
each_once (b ∷ rest) = not (is_inner rest b.inner) && each_once rest

-- a client directly behind a NAT has the external address of no NAT directly behind it
abbrev pub is_apart : TopologyState → List Behind → ClientNode → Bool
is_apart t chain c = not (is_some (inner_at t chain c.nat c.inside.ip))

-- a chain keeps the rules
unfoldable pub is_chain : TopologyState → List Behind → Bool
is_chain t chain = list_all (is_link t chain) chain && (each_once chain && list_all (is_apart t chain) t.clients)
