-- The events that a scenario with a topology may ask for.
use Rattle.std.specs.Prelude.{◌≡◌, ◌≤◌, ◌<◌, ℕ, true, List, length}
use Rattle.td_base.specs.declared.endpoint.Ep.{Ep}
use Rattle.td_base.specs.Bytes.{IsBytes}
use Rattle.td_base.specs.Ep.{IsEp}
use Rattle.td_base.specs.Ip6.{IsIp6}
use Rattle.events.specs.declared.event.Event.{Event}
use Rattle.events.specs.declared.event.Event.TheVariants as event
use Rattle.events.specs.declared.event.TheConstants.{ADVANCE_MAX_MS, ENTRY_NUMBER_MAX, SEQUENCE_MAX, BODY_MAX, FAULT_MAX}
use Rattle.td_base.specs.declared.datagram.TheConstants.{DATAGRAM_MAX}
use Rattle.events.specs.declared.target.Target.{Target}
use Rattle.events.specs.declared.target.Target.TheVariants as target
use Rattle.topology.specs.Rows.{TopologyState}
use Rattle.topology.specs.Named.{has_host, is_nat, is_client_of}
use Rattle.topology.specs.Topology.{nodes, node_at}

-- a client or native host, or an address
abbrev pub IsTarget : TopologyState → Target → Type 0
IsTarget t (target.Node number) = has_host (node_at t number) ≡ true
IsTarget t (target.At ip) = IsIp6 ip

-- a host of the topology sends this body to a target
pub record IsHosted (t : TopologyState) (node : ℕ) (to : Target) (body : List ℕ) : Type 0 where
  pub from : has_host (node_at t node) ≡ true
  pub target : IsTarget t to
  pub short : length body ≤ BODY_MAX
  pub made : IsBytes body

-- it sends an echo request with this sequence number
pub record IsEcho (t : TopologyState) (node : ℕ) (to : Target) (seq : ℕ) : Type 0 where
  pub from : has_host (node_at t node) ≡ true
  pub target : IsTarget t to
  pub most : seq ≤ SEQUENCE_MAX

-- it hands in these bytes
pub record IsHandedIn (t : TopologyState) (node : ℕ) (bytes : List ℕ) : Type 0 where
  pub from : has_host (node_at t node) ≡ true
  pub short : length bytes ≤ DATAGRAM_MAX
  pub made : IsBytes bytes

-- a stranger's datagram
pub record IsStranger (src dst : Ep) (bytes : List ℕ) : Type 0 where
  pub from : IsEp src
  pub to : IsEp dst
  pub short : length bytes ≤ DATAGRAM_MAX
  pub made : IsBytes bytes

-- a copy of an entry, between other endpoints
pub record IsCopy (number : ℕ) (src dst : Ep) : Type 0 where
  pub most : number ≤ ENTRY_NUMBER_MAX
  pub from : IsEp src
  pub to : IsEp dst

-- a `forget` names a NAT, and a client behind it
pub record IsForgotten (t : TopologyState) (n who : ℕ) : Type 0 where
  pub by : is_nat (node_at t n) ≡ true
  pub behind : is_client_of n (node_at t who) ≡ true

-- the numbers are of nodes that can do so, and within their limits; addresses, ports and bytes are as datagrams have them
abbrev pub IsEvent : TopologyState → Event → Type 0
IsEvent t (event.Advance ms) = ms ≤ ADVANCE_MAX_MS
IsEvent t (event.Deliver number) = number ≤ ENTRY_NUMBER_MAX
IsEvent t event.Next = Unit {0}
IsEvent t (event.Host node to body) = IsHosted t node to body
IsEvent t (event.Echo node to seq) = IsEcho t node to seq
IsEvent t (event.Raw node bytes) = IsHandedIn t node bytes
IsEvent t (event.Stranger src dst bytes) = IsStranger src dst bytes
IsEvent t (event.Copy number src dst) = IsCopy number src dst
IsEvent t (event.Restart node) = node < length (nodes t)
IsEvent t (event.Forget n who) = IsForgotten t n who
IsEvent t (event.Fault send) = send ≤ FAULT_MAX
IsEvent t event.Settle = Unit {0}
