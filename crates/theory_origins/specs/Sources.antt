-- Who sent a datagram that says that it comes from a node's address.
use Rattle.std.specs.Prelude.{◌≡◌, ◌≢◌, ℕ, true, List, ◌∷◌, Some}
use Rattle.std.specs.List.{AllByRecursion}
use Rattle.topology.specs.declared.nat_node.NatNode.{NatNode}
use Rattle.topology.specs.declared.client_node.ClientNode.{ClientNode}
use Rattle.topology.specs.declared.node.Node.{Node}
use Rattle.topology.specs.declared.node.Node.TheVariants.{Server as server, Nat as nat, Relay as relay}
use Rattle.topology.specs.NodeRules.{has_address}
use Rattle.topology.specs.Rules.{IsTopology}
use Rattle.topology.specs.Topology.{node_at, client_at}
use Rattle.topology.specs.Chains.{outer_in, nats_from, last_nat}
use Rattle.history.specs.Full.{Item, udp, six, Full, wire, items_of}
use Rattle.legal.specs.Lab.{Lab}
use Rattle.legal.specs.Legal.{Grown}
use Rattle.legal.specs.Honest.{is_honest_event, are_honest}

-- *outermost NAT of a client*: the last on its way out, at whose address its datagrams leave; in `lab` its only one.
-- the NAT at which a client's way out ends
abbrev pub outermost : Lab → ClientNode → ℕ
outermost lab c = last_nat c.nat (nats_from lab.chain lab.chain (outer_in lab.chain c.nat))

-- the record is of a client whose way out ends at NAT k
pub record IsBehind (lab : Lab) (r : Full) (k : ℕ) : Type 0 where
  pub number : ℕ
  pub row : ClientNode
  pub node : r.node ≡ Some number
  pub client : client_at lab.topology number ≡ Some row
  pub nat : outermost lab row ≡ k

-- a datagram from an address of node n is the node's, or that of a client behind it
abbrev pub IsSender : Lab → Full → ℕ → Node → Type 0
IsSender lab r n (server a) = r.node ≡ Some n
IsSender lab r n (relay a) = r.node ≡ Some n
IsSender lab r n (nat a) = IsBehind lab r n
IsSender lab r n _ = ⊥

-- a datagram from an address of a node is one of this node's, or of a client behind it
abbrev pub HasOwnSource : Lab → Full → Item → Type 0
HasOwnSource lab r (udp src dst bytes) = (n : ℕ) (a : Node) → node_at lab.topology n ≡ Some a → has_address src.ip a ≡ true → IsSender lab r n a
HasOwnSource lab r (six to bytes) = Unit {0}

-- in an honest history each entry from an address of a node
abbrev pub EachHasOwnSource : Type 0
EachHasOwnSource = (lab : Lab) (H : List Full) (r : Full) → IsTopology lab.topology → Grown lab (r ∷ H) → is_honest_event lab.topology r.asked ≡ true
    → AllByRecursion (HasOwnSource lab r) (items_of r)

-- a datagram from the address of a NAT goes to another address: a NAT sends nothing back to its own
abbrev pub GoesElsewhere : Lab → Item → Type 0
GoesElsewhere lab (udp src dst bytes) = (k : ℕ) (a : NatNode) → node_at lab.topology k ≡ Some (nat a) → src.ip ≡ a.external → dst.ip ≢ a.external
GoesElsewhere lab (six to bytes) = Unit {0}

-- in an honest history each does
abbrev pub EachGoesElsewhere : Type 0
EachGoesElsewhere = (lab : Lab) (H : List Full) → IsTopology lab.topology → Grown lab H → are_honest lab.topology H ≡ true
    → AllByRecursion (GoesElsewhere lab) (wire H)
