-- The rules that a topology keeps.
use Rattle.std.specs.Prelude.{◌≡◌, ◌≢◌, ◌≤◌, ◌==◌, ◌&&◌, Bool, true, false, is_some, List, [], ◌∷◌, ◌++◌, map, flat_map, length}
use Rattle.std.specs.List.{list_any, AllByRecursion}
use Rattle.td_base.specs.Ip4.{IsIp4, same_ip}
use Rattle.td_base.specs.Ip6.{IsIp6, same_ip6}
use Rattle.td_base.specs.Ep.{IsEp, same_ep}
use Rattle.topology.specs.Names.{name_text, same_name}
use Rattle.td_base.specs.Reach.{is_global, is_global6}
use Rattle.td_base.specs.declared.ipv4.Ip4.{Ip4}
use Rattle.td_base.specs.declared.ipv6.Ip6.{Ip6}
use Rattle.topology.specs.declared.node_name.Name.{Name}
use Rattle.td_base.specs.declared.reach.Policy.TheVariants.{Strict}
use Rattle.teredo_addr.specs.Teredo.{is_teredo}
use Rattle.topology.specs.declared.topology.TheConstants.{SERVERS_MAX, NATS_MAX, CLIENTS_MAX, RELAYS_MAX, NATIVES_MAX}
use Rattle.topology.specs.declared.nat_node.TheConstants.{IDLE_MAX_MS}
use Rattle.topology.specs.declared.refresh_range.TheConstants.{REFRESH_MIN_MS, REFRESH_MAX_MS}
use Rattle.topology.specs.declared.refresh_range.RefreshRange.{RefreshRange}
use Rattle.topology.specs.declared.server_node.ServerNode.{ServerNode}
use Rattle.topology.specs.declared.nat_node.NatNode.{NatNode}
use Rattle.topology.specs.declared.client_node.ClientNode.{ClientNode}
use Rattle.topology.specs.declared.relay_node.RelayNode.{RelayNode}
use Rattle.topology.specs.declared.native_node.NativeNode.{NativeNode}
use Rattle.topology.specs.NodeNames.{is_name}
use Rattle.topology.specs.Rows.{TopologyState}
use Rattle.topology.specs.Topology.{nodes, name_of, server_at, nat_at, relay_at}

-- no two of these are the same
abbrev pub AreDistinct : {A : Type 0} → (A → A → Bool) → List A → Type 0
AreDistinct same [] = Unit {0}
AreDistinct same (x ∷ xs) = (list_any (same x) xs ≡ false) × AreDistinct same xs

-- the names of all nodes
abbrev pub names_of : TopologyState → List Name
names_of t = map name_of (nodes t)

-- the IPv4 addresses of the nodes: a server's two, a NAT's, a relay's
abbrev pub addresses_of : TopologyState → List Ip4
addresses_of t = flat_map (λ (a : ServerNode). a.primary ∷ a.secondary ∷ []) t.servers
    ++ (map (λ (a : NatNode). a.external) t.nats ++ map (λ (r : RelayNode). r.at.ip) t.relays)

-- the IPv6 addresses of the nodes: a relay's, a native host's
abbrev pub sixes_of : TopologyState → List Ip6
sixes_of t = map (λ (r : RelayNode). r.six) t.relays ++ map (λ (h : NativeNode). h.six) t.natives

-- two clients behind one NAT, with one inside endpoint
abbrev pub same_inside : ClientNode → ClientNode → Bool
same_inside a b = (a.nat == b.nat) && same_ep a.inside b.inside

-- how long a mapping lives
pub record IsIdle (a : NatNode) : Type 0 where
  pub least : 1 ≤ a.idle
  pub most : a.idle ≤ IDLE_MAX_MS

-- times between two refreshes
pub record IsRefreshRange (a : RefreshRange) : Type 0 where
  pub least : REFRESH_MIN_MS ≤ a.low_ms
  pub order : a.low_ms ≤ a.high_ms
  pub most : a.high_ms ≤ REFRESH_MAX_MS

-- a client is behind a NAT and asks a server
pub record IsClient (t : TopologyState) (c : ClientNode) : Type 0 where
  pub behind : is_some (nat_at t c.nat) ≡ true
  pub asks : is_some (server_at t c.server) ≡ true
  pub port : c.inside.port ≢ 0
  pub refresh : IsRefreshRange c.refresh

-- an address of the IPv6 Internet
pub record IsOutside (ip : Ip6) : Type 0 where
  pub global : is_global6 ip ≡ true
  pub other : is_teredo ip ≡ false

-- addresses have 4 or 16 bytes, and ports 16 bits, as datagrams have them
pub record AreMade (t : TopologyState) : Type 0 where
  pub addresses : AllByRecursion IsIp4 (addresses_of t)
  pub sixes : AllByRecursion IsIp6 (sixes_of t)
  pub inside : AllByRecursion (λ (c : ClientNode). IsEp c.inside) t.clients
  pub at : AllByRecursion (λ (r : RelayNode). IsEp r.at) t.relays

-- the rules that the nodes of a scenario keep
pub record IsTopology (t : TopologyState) : Type 0 where
  pub servers : length t.servers ≤ SERVERS_MAX
  pub nats : length t.nats ≤ NATS_MAX
  pub clients : length t.clients ≤ CLIENTS_MAX
  pub relays : length t.relays ≤ RELAYS_MAX
  pub natives : length t.natives ≤ NATIVES_MAX
  pub names : AreDistinct same_name (names_of t)
  pub spelled : AllByRecursion (λ (a : Name). is_name (name_text a) ≡ true) (names_of t)
  pub addresses : AreDistinct same_ip (addresses_of t)
  pub global : AllByRecursion (λ (ip : Ip4). is_global Strict ip ≡ true) (addresses_of t)
  pub idle : AllByRecursion IsIdle t.nats
  pub each_client : AllByRecursion (IsClient t) t.clients
  pub inside : AreDistinct same_inside t.clients
  pub ports : AllByRecursion (λ (r : RelayNode). r.at.port ≢ 0) t.relays
  pub outside : AllByRecursion IsOutside (sixes_of t)
  pub sixes : AreDistinct same_ip6 (sixes_of t)
  pub through : AllByRecursion (λ (h : NativeNode). is_some (relay_at t h.relay) ≡ true) t.natives
  pub made : AreMade t
