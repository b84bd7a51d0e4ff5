-- Which clients relays trust, and which relay a host of the IPv6 Internet has.
use Rattle.std.specs.Prelude.{ℕ, Bool, false, if◌then◌else◌, List, [], ◌∷◌, Option, Some, None, is_some}
use Rattle.td_base.specs.Ip6.{same_ip6}
use Rattle.td_base.specs.declared.ipv6.Ip6.{Ip6}
use Rattle.peer_list.specs.Peers.{known}
use Rattle.relay_rules.specs.Bearings.{relay_mentions}
use Rattle.topology.specs.declared.native_node.NativeNode.{NativeNode}
use Rattle.topology.specs.Rows.{TopologyState}
use Rattle.topology.specs.declared.node.Node.{Node}
use Rattle.topology.specs.declared.node.Node.TheVariants.{Relay as relay}
use Rattle.topology.specs.Topology.{node_at}
use Rattle.history.specs.Full.{Full}
use Rattle.legal.specs.Past.{now, journal}

-- node n, where it is a relay, trusts the client with that address now
abbrev pub trusts_as : List Full → ℕ → Ip6 → Option Node → Bool
trusts_as H n client (Some (relay r)) = is_some (known (relay_mentions (journal n H).entries) (now H) client).trusted
trusts_as H n client _ = false

-- does the relay of this number trust the client?
unfoldable pub relay_trusts : TopologyState → List Full → ℕ → Ip6 → Bool
relay_trusts t H n client = trusts_as H n client (node_at t n)

-- the relay of the host with that address
abbrev pub relay_among : Ip6 → List NativeNode → Option ℕ
relay_among host [] = None
relay_among host (h ∷ rest) = if same_ip6 host h.six then Some h.relay else relay_among host rest

-- the relay that the host with this address names
unfoldable pub host_relay : TopologyState → Ip6 → Option ℕ
host_relay t host = relay_among host t.natives

-- a host's relay, if it has one, trusts the client
abbrev pub trusted_by : TopologyState → List Full → Ip6 → Option ℕ → Bool
trusted_by t H client None = false
trusted_by t H client (Some n) = relay_trusts t H n client

-- does the host's relay trust the client?
unfoldable pub is_trusted_for : TopologyState → List Full → (host client : Ip6) → Bool
is_trusted_for t H host client = trusted_by t H client (host_relay t host)
