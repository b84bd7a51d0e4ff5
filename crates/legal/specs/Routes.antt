-- Where a delivery goes, read back: which entries reach a node.
use Rattle.std.specs.Prelude.{◌≡◌, ◌⊎◌, ℕ, true, false, List, Some, None}
use Rattle.td_base.specs.declared.endpoint.Ep.{Ep}
use Rattle.td_base.specs.Ep.{server_ep}
use Rattle.td_base.specs.Ip6.{same_ip6}
use Rattle.ipv6_packet.specs.Reads.{is_packet, fields_in}
use Rattle.topology.specs.declared.nat_node.NatNode.{NatNode}
use Rattle.topology.specs.declared.client_node.ClientNode.{ClientNode}
use Rattle.topology.specs.declared.native_node.NativeNode.{NativeNode}
use Rattle.topology.specs.declared.node.Node.{Node}
use Rattle.topology.specs.declared.node.Node.TheVariants.{Server as server, Nat as nat, Client as client, Relay as relay, Native as native}
use Rattle.topology.specs.Rules.{IsTopology}
use Rattle.topology.specs.Topology.{node_at}
use Rattle.topology.specs.Chains.{is_inner, Inward, comes_to, shut_at, chain_in}
use Rattle.history.specs.Full.{Item, udp, six, Full}
use Rattle.legal.specs.Lab.{Lab}
use Rattle.legal.specs.Past.{nat_pasts}
use Rattle.legal.specs.Emit.{reaches, closed, route}

-- *enters by a way*: a datagram goes to the address of a NAT that is behind no other, and past this NAT and those
-- behind it comes in so.
-- a datagram from src goes to the address of a NAT that is behind no other. So it comes in past this NAT and those behind it
pub record EntersBy (lab : Lab) (H : List Full) (m : ℕ) (src dst : Ep) (way : Inward) : Type 0 where
  pub outer : ℕ
  pub row : NatNode
  pub there : node_at lab.topology outer ≡ Some (nat row)
  pub outermost : is_inner lab.chain outer ≡ false
  pub external : dst.ip ≡ row.external
  pub enters : chain_in lab.topology lab.chain (nat_pasts lab H) m outer src dst.port ≡ way

-- *let in to a client*: a datagram for the address of a NAT that is behind no other, which this NAT and those behind it
-- let in to the client.
-- they let it in to the client
abbrev pub IsLetIn : Lab → List Full → ℕ → Ep → Ep → ClientNode → Type 0
IsLetIn lab H m src dst c = EntersBy lab H m src dst (comes_to c.nat c.inside)

-- *shut out*: such a datagram which one of these NATs lets in to nobody.
-- NAT k of them lets it in to nobody
abbrev pub IsShutOut : Lab → List Full → ℕ → Ep → Ep → ℕ → Type 0
IsShutOut lab H m src dst k = EntersBy lab H m src dst (shut_at k)

-- a packet without a relay is for the native host with its destination
pub record IsForNative (h : NativeNode) (bytes : List ℕ) : Type 0 where
  pub packet : is_packet bytes ≡ true
  pub destination : same_ip6 (fields_in bytes).dst h.six ≡ true

-- a datagram comes to its destination, or through NATs. It ends at no NAT, and at no native host
abbrev pub DatagramReaches : Lab → List Full → ℕ → Ep → Ep → Node → Type 0
DatagramReaches lab H m src dst (server a) = (dst ≡ server_ep a.primary) ⊎ (dst ≡ server_ep a.secondary)
DatagramReaches lab H m src dst (nat a) = ⊥
DatagramReaches lab H m src dst (client c) = IsLetIn lab H m src dst c
DatagramReaches lab H m src dst (relay r) = dst ≡ r.at
DatagramReaches lab H m src dst (native h) = ⊥

-- the packet on the IPv6 side is for this node
abbrev pub PacketReaches : List ℕ → Node → Type 0
PacketReaches bytes (native h) = IsForNative h bytes
PacketReaches bytes _ = ⊥

-- an entry's way ends at node n, which is a
abbrev pub Reaches : Lab → List Full → ℕ → Item → ℕ → Node → Type 0
Reaches lab H m (udp src dst bytes) n a = DatagramReaches lab H m src dst a
Reaches lab H m (six (Some k) bytes) n a = n ≡ k
Reaches lab H m (six None bytes) n a = PacketReaches bytes a

-- a delivery comes to a node only so
abbrev pub EachRoute : Type 0
EachRoute = (lab : Lab) (H : List Full) (m : ℕ) (x : Item) (n : ℕ) (a : Node) → route lab H m x ≡ reaches n a → Reaches lab H m x n a

-- and to each node that is there, where it keeps the rules
abbrev pub EachIsReached : Type 0
EachIsReached = (lab : Lab) (H : List Full) (m : ℕ) (x : Item) (n : ℕ) (a : Node) → IsTopology lab.topology → node_at lab.topology n ≡ Some a
    → Reaches lab H m x n a → route lab H m x ≡ reaches n a

-- and no node where a NAT shuts it out
abbrev pub EachIsShutOut : Type 0
EachIsShutOut = (lab : Lab) (H : List Full) (m : ℕ) (src dst : Ep) (bytes : List ℕ) (k : ℕ) → IsTopology lab.topology
    → IsShutOut lab H m src dst k → route lab H m (udp src dst bytes) ≡ closed k
