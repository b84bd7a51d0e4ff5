-- The way in, NAT by NAT: what lets a datagram in to a client lets it in at each NAT of the client's way.
use Rattle.std.specs.Prelude.{◌≡◌, ℕ, List, [], ◌∷◌, Some}
use Rattle.td_base.specs.declared.endpoint.Ep.{Ep}
use Rattle.topology.specs.declared.client_node.ClientNode.{ClientNode}
use Rattle.topology.specs.Rules.{IsTopology}
use Rattle.topology.specs.Topology.{client_at}
use Rattle.topology.specs.Chains.{let_in}
use Rattle.history.specs.Full.{Full}
use Rattle.legal.specs.Lab.{Lab}
use Rattle.legal.specs.Past.{nat_pasts}
use Rattle.legal.specs.Routes.{IsLetIn}
use Rattle.theory_ways.specs.Ways.{IsChained, nats_of, nat_of}

-- *let in past a way*: the outermost NAT lets it in where it goes to, and each further in where the one outside it
-- sends it on to.
-- each of these NATs lets a datagram from src in: the last one at dst, and each further in where the one outside it sends it on
-- to. The first one lets it in to `inside`
abbrev pub EntersPast : Lab → List Full → ℕ → Ep → List ℕ → (inside dst : Ep) → Type 0
EntersPast lab H m src [] inside dst = inside ≡ dst
EntersPast lab H m src (k ∷ way) inside dst = (at : Ep) × (at.ip ≡ (nat_of lab k).external)
    × (let_in lab.topology (nat_pasts lab H) m k src at.port ≡ Some inside) × EntersPast lab H m src way at dst

-- what is let in to a client comes in past its way
abbrev pub EachEntersByItsWay : Type 0
EachEntersByItsWay = (lab : Lab) (H : List Full) (m : ℕ) (src dst : Ep) (c : ClientNode) → IsChained lab → IsLetIn lab H m src dst c
    → EntersPast lab H m src (nats_of lab c) c.inside dst

-- and what comes in past it is let in
abbrev pub EachIsLetIn : Type 0
EachIsLetIn = (lab : Lab) (H : List Full) (m : ℕ) (src dst : Ep) (n : ℕ) (c : ClientNode) → IsTopology lab.topology → IsChained lab
    → client_at lab.topology n ≡ Some c → EntersPast lab H m src (nats_of lab c) c.inside dst → IsLetIn lab H m src dst c
