-- The nodes of a scenario and their numbers: servers, NATs, clients, relays, native hosts, each in order.
use Rattle.std.specs.Prelude.{ℕ, ◌==◌, ◌&&◌, ◌||◌, Bool, false, List, [], ◌∷◌, ◌++◌, map, position, slice_get, Option}
use Rattle.std.specs.Prelude.{Some, None, option_and_then, if◌then◌else◌}
use Rattle.td_base.specs.Ip4.{same_ip}
use Rattle.td_base.specs.Ip6.{same_ip6}
use Rattle.td_base.specs.Ep.{same_ep, server_ep}
use Rattle.td_base.specs.declared.endpoint.Ep.{Ep}
use Rattle.td_base.specs.declared.ipv4.Ip4.{Ip4}
use Rattle.td_base.specs.declared.ipv6.Ip6.{Ip6}
use Rattle.topology.specs.declared.node_name.Name.{Name}
use Rattle.td_base.specs.declared.side.Side.{Side}
use Rattle.td_base.specs.declared.side.Side.TheVariants.{Primary, Secondary}
use Rattle.nat_kinds.specs.declared.kind.NatKind.TheVariants.{Cone}
use Rattle.nat_kinds.specs.declared.settings.NatSettings.{NatSettings}
use Rattle.topology.specs.declared.server_node.ServerNode.{ServerNode}
use Rattle.topology.specs.declared.nat_node.NatNode.{NatNode}
use Rattle.topology.specs.declared.client_node.ClientNode.{ClientNode}
use Rattle.topology.specs.declared.relay_node.RelayNode.{RelayNode}
use Rattle.topology.specs.Rows.{TopologyState}
use Rattle.topology.specs.declared.node.Node.{Node}
use Rattle.topology.specs.declared.node.Node.TheVariants.{Server as server, Nat as nat, Client as client, Relay as relay, Native as native}

-- all nodes, by their numbers
abbrev pub nodes : TopologyState → List Node
nodes t = map server t.servers ++ (map nat t.nats ++ (map client t.clients ++ (map relay t.relays ++ map native t.natives)))

-- the node of a number, if there is one
abbrev pub node_at : TopologyState → ℕ → Option Node
node_at t n = slice_get (nodes t) n

-- the name of a node
abbrev pub name_of : Node → Name
name_of (server a) = a.name
name_of (nat a) = a.name
name_of (client c) = c.name
name_of (relay r) = r.name
name_of (native h) = h.name

-- NODES OF ONE KIND

-- the row of a server, if the node is one
abbrev pub as_server : Node → Option ServerNode
as_server (server a) = Some a
as_server _ = None

-- the row of a NAT, if the node is one
abbrev pub as_nat : Node → Option NatNode
as_nat (nat a) = Some a
as_nat _ = None

-- the row of a client, if the node is one
abbrev pub as_client : Node → Option ClientNode
as_client (client c) = Some c
as_client _ = None

-- the row of a relay, if the node is one
abbrev pub as_relay : Node → Option RelayNode
as_relay (relay r) = Some r
as_relay _ = None

-- the server of a number, if it is one
abbrev pub server_at : TopologyState → ℕ → Option ServerNode
server_at t n = option_and_then as_server (node_at t n)

-- the NAT of a number, if it is one
abbrev pub nat_at : TopologyState → ℕ → Option NatNode
nat_at t n = option_and_then as_nat (node_at t n)

-- the client of a number, if it is one
abbrev pub client_at : TopologyState → ℕ → Option ClientNode
client_at t n = option_and_then as_client (node_at t n)

-- the relay of a number, if it is one
abbrev pub relay_at : TopologyState → ℕ → Option RelayNode
relay_at t n = option_and_then as_relay (node_at t n)

-- SETTINGS OF A NAT

-- the settings of a NAT's row
abbrev pub nat_settings : NatNode → NatSettings
nat_settings a = record { kind = a.kind; external = a.external; idle = a.idle }

-- the address 0.0.0.0, of what isn't there
abbrev pub no_ip : Ip4
no_ip = record { 0 = 0 ∷ 0 ∷ 0 ∷ 0 ∷ [] }

-- a NAT that isn't there; no client is behind it
abbrev pub no_nat : NatSettings
no_nat = record { kind = Cone; external = no_ip; idle = 0 }

-- the settings of a NAT, or those of none
abbrev pub settings_of_nat : Option NatNode → NatSettings
settings_of_nat None = no_nat
settings_of_nat (Some a) = nat_settings a

-- WHERE A DESTINATION IS

-- datagrams to this endpoint come to the node
abbrev pub is_at : Ep → Node → Bool
is_at dst (server a) = same_ep dst (server_ep a.primary) || same_ep dst (server_ep a.secondary)
is_at dst (nat a) = same_ip dst.ip a.external
is_at dst (client c) = false
is_at dst (relay r) = same_ep dst r.at
is_at dst (native h) = false

-- a client behind NAT number n, with this inside endpoint
abbrev pub is_behind : ℕ → Ep → Node → Bool
is_behind n inside (client c) = (c.nat == n) && same_ep inside c.inside
is_behind n inside _ = false

-- is it the native host with this address?
abbrev pub is_native : Ip6 → Node → Bool
is_native ip (native h) = same_ip6 ip h.six
is_native ip _ = false

-- the number of the first node that passes
abbrev pub first_passing : (Node → Bool) → TopologyState → Option ℕ
first_passing test t = position test (nodes t)

-- which of its two addresses a server was asked at
abbrev pub side_at : Node → Ep → Side
side_at (server a) dst = if same_ip dst.ip a.secondary then Secondary else Primary
side_at _ dst = Primary

-- the endpoint that a node sends from
abbrev pub own_ep : Node → Side → Ep
own_ep (server a) Primary = server_ep a.primary
own_ep (server a) Secondary = server_ep a.secondary
own_ep (relay r) side = r.at
own_ep _ side = record { ip = no_ip; port = 0 }
