-- Neighbours: clients with one outermost NAT never hear each other, since a NAT sends nothing back to its own address.
use Rattle.std.specs.Prelude.{◌≡◌, ◌≢◌, ℕ, true, List, [], ◌∷◌}
use Rattle.ipv6_packet.specs.Reads.{fields_in}
use Rattle.teredo_addr.specs.Teredo.{is_teredo, embedded}
use Rattle.topology.specs.declared.client_node.ClientNode.{ClientNode}
use Rattle.topology.specs.Rules.{IsTopology}
use Rattle.history.specs.Full.{Full}
use Rattle.legal.specs.Lab.{Lab}
use Rattle.legal.specs.Legal.{Grown}
use Rattle.legal.specs.Honest.{are_honest}
use Rattle.theory_origins.specs.Sources.{outermost}
use Rattle.theory_origins.specs.Handed.{HandsToHost}
use Rattle.theory_ways.specs.Ways.{IsChained, nat_of}

-- a record hands no packet to a client's host whose Teredo source embeds the address of the client's outermost NAT
abbrev pub IsUnheardIn : Lab → Full → Type 0
IsUnheardIn lab r = (n : ℕ) (c : ClientNode) (x : List ℕ) → HandsToHost lab r n c x → is_teredo (fields_in x).src ≡ true
    → (embedded (fields_in x).src).ip ≢ (nat_of lab (outermost lab c)).external

-- after a history that is honest
abbrev pub NeighboursAreUnheard : Type 0
NeighboursAreUnheard = (lab : Lab) (H : List Full) (r : Full) → IsTopology lab.topology → IsChained lab → Grown lab (r ∷ H)
    → are_honest lab.topology H ≡ true → IsUnheardIn lab r

-- the latest record does so, where those before it are honest
abbrev pub NeighboursUnheardLast : Lab → List Full → Type 0
NeighboursUnheardLast lab [] = Unit {0}
NeighboursUnheardLast lab (r ∷ H) = are_honest lab.topology H ≡ true → IsUnheardIn lab r
