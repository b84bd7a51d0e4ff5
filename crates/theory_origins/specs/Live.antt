-- What clients' addresses embed: an endpoint that leads to the client.
use Rattle.std.specs.Prelude.{◌≡◌, ℕ, true, false, List, [], ◌∷◌, Some}
use Rattle.td_base.specs.declared.ipv6.Ip6.{Ip6}
use Rattle.td_base.specs.declared.endpoint.Ep.{Ep}
use Rattle.teredo_addr.specs.Teredo.{embedded}
use Rattle.nat_kinds.specs.Mappings.{live_port}
use Rattle.nat_kinds.specs.Answer.{live_after}
use Rattle.topology.specs.declared.nat_node.NatNode.{NatNode}
use Rattle.topology.specs.declared.client_node.ClientNode.{ClientNode}
use Rattle.topology.specs.declared.node.Node.TheVariants.{Nat as nat}
use Rattle.topology.specs.Rules.{IsTopology}
use Rattle.topology.specs.Topology.{node_at, client_at}
use Rattle.topology.specs.Chains.{nat_set_up, is_inner, inner_at}
use Rattle.history.specs.Full.{Full}
use Rattle.legal.specs.Lab.{Lab}
use Rattle.legal.specs.Past.{now, nat_history}
use Rattle.legal.specs.Legal.{Grown}
use Rattle.legal.specs.Honest.{are_honest_for}

-- NAT k holds the port live for this inside endpoint
abbrev pub HoldsPort : Lab → List Full → ℕ → Ep → ℕ → Type 0
HoldsPort lab H k inside port =
    (dst : Ep) × (live_port (nat_set_up lab.topology k).kind inside dst (live_after (nat_set_up lab.topology k) (nat_history lab k H) (now H)) ≡ Some port)

-- live ports lead inwards from a port of NAT k to the client: to its inside endpoint, or to the address of a NAT behind
-- this one, and on from there
pub data LeadsTo (lab : Lab) (H : List Full) (c : ClientNode) : ℕ → ℕ → Type 0 where
  ends : (port : ℕ) → HoldsPort lab H c.nat c.inside port → LeadsTo lab H c c.nat port
  goes_on : (k port j : ℕ) (inside : Ep) → HoldsPort lab H k inside port → inner_at lab.topology lab.chain k inside.ip ≡ Some j
      → LeadsTo lab H c j inside.port → LeadsTo lab H c k port

-- *live*, of an endpoint: at the address of a NAT that is behind no other, from where live ports lead inwards to the
-- client.
-- an endpoint at the address of a NAT that is behind no other, which leads to the client
-- Premise: an endpoint that leads to a client: the NAT is `there`, and `outermost`; the endpoint has its `external`
-- address, and `leads` inwards.
pub record IsLive (lab : Lab) (H : List Full) (c : ClientNode) (e : Ep) : Type 0 where
  pub outer : ℕ
  pub row : NatNode
  pub there : node_at lab.topology outer ≡ Some (nat row)
  pub outermost : is_inner lab.chain outer ≡ false
  pub external : e.ip ≡ row.external
  pub leads : LeadsTo lab H c outer e.port

-- in a history that is honest for the client the endpoint in each address that a record sets is live
abbrev pub EachIsLive : Type 0
EachIsLive = (lab : Lab) (H : List Full) (r : Full) (n : ℕ) (c : ClientNode) (own : Ip6) → IsTopology lab.topology → Grown lab (r ∷ H)
    → are_honest_for lab.topology c (r ∷ H) ≡ true → r.node ≡ Some n → client_at lab.topology n ≡ Some c → r.address ≡ Some own
    → IsLive lab (r ∷ H) c (embedded own)

-- *held*, of an endpoint: in `lab`: the address of the client's NAT, and a port that this holds for the client.
-- where no NAT is behind another one it is the client's NAT's address, and a port that this holds for the client
pub record IsHeld (lab : Lab) (H : List Full) (c : ClientNode) (e : Ep) : Type 0 where
  pub external : e.ip ≡ (nat_set_up lab.topology c.nat).external
  pub port : HoldsPort lab H c.nat c.inside e.port

-- where no NAT is behind another one this is the address of the client's NAT, and a port that it holds for the client
abbrev pub EachIsHeld : Type 0
EachIsHeld = (lab : Lab) (H : List Full) (c : ClientNode) (e : Ep) → lab.chain ≡ [] → IsLive lab H c e → IsHeld lab H c e
