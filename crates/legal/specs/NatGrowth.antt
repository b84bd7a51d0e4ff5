-- What a record adds to a NAT's history: nothing, that it started anew, that it forgot a client, or datagrams of one client.
use Rattle.std.specs.Prelude.{◌≡◌, ◌⊎◌, ℕ, List, [], ◌∷◌, Some}
use Rattle.std.specs.List.{AllByRecursion}
use Rattle.td_base.specs.declared.endpoint.Ep.{Ep}
use Rattle.nat_kinds.specs.declared.outgoing.Outward.{Outward}
use Rattle.nat_kinds.specs.History.{NatEntry, Out, Forget, Restart}
use Rattle.topology.specs.declared.client_node.ClientNode.{ClientNode}
use Rattle.topology.specs.Rows.{TopologyState}
use Rattle.topology.specs.Topology.{client_at}
use Rattle.topology.specs.Chains.{nat_set_up, way_out}
use Rattle.events.specs.declared.event.Event.TheVariants as event
use Rattle.history.specs.Full.{Full}
use Rattle.legal.specs.Lab.{Lab}
use Rattle.legal.specs.Past.{nat_entries}
use Rattle.legal.specs.Legal.{Follows}

-- *comes by a way*: a datagram comes to a NAT by a client's way out: to the first one from the client's inside
-- endpoint, to each further one from the address of the one before.
-- a datagram on its way past these NATs comes to NAT k from `inside`: to the first from where it set out, to each further
-- one from the external address of the one before
abbrev pub ComesBy : TopologyState → Ep → List ℕ → ℕ → Ep → Type 0
ComesBy t from [] k inside = ⊥
ComesBy t from (j ∷ way) k inside =
    ((k ≡ j) × (inside ≡ from)) ⊎ ((port : ℕ) × ComesBy t (record { ip = (nat_set_up t j).external; port = port }) way k inside)

-- a client's datagram that NAT k let out at a moment, on the client's way out
pub record IsOutOf (lab : Lab) (c : ClientNode) (m k : ℕ) (x : NatEntry) : Type 0 where
  pub datagram : Outward
  pub is : x ≡ Out datagram
  pub moment : datagram.moment.0 ≡ m
  pub way : ComesBy lab.topology c.inside (way_out lab.chain c.nat) k datagram.inside

-- which of the four it is
pub data NatGrows (lab : Lab) (r : Full) (k : ℕ) (added : List NatEntry) : Type 0 where
  stays : added ≡ [] → NatGrows lab r k added
  restarts : r.asked ≡ event.Restart k → added ≡ Restart ∷ [] → NatGrows lab r k added
  forgets : (who : ℕ) (c : ClientNode) → r.asked ≡ event.Forget k who → client_at lab.topology who ≡ Some c
      → added ≡ Forget c.inside ∷ [] → NatGrows lab r k added
  -- of the record's node, at the record's moment. Their ports are what the NAT's history answers: `EachNatIsPast`
  lets_out : (n : ℕ) (c : ClientNode) → r.node ≡ Some n → client_at lab.topology n ≡ Some c
      → AllByRecursion (IsOutOf lab c r.moment k) added → NatGrows lab r k added

-- a record adds nothing to a NAT's history, or that it started anew, or that it forgot a client, or datagrams of one
-- client
abbrev pub EachNatGrows : Type 0
EachNatGrows = (lab : Lab) (H : List Full) (r : Full) (k : ℕ) → Follows lab H r → NatGrows lab r k (nat_entries lab k r)
