-- What the NATs of a client's way let out of a record is found again after it: by walking the way, and asking each NAT which port it has live.
use Rattle.std.specs.Prelude.{◌≡◌, ℕ, true, List, [], ◌∷◌, reverse, Some}
use Rattle.std.specs.List.{AllByRecursion, flat_map}
use Rattle.td_base.specs.declared.endpoint.Ep.{Ep}
use Rattle.teredo_node.specs.Journal.{Entry}
use Rattle.topology.specs.declared.client_node.ClientNode.{ClientNode}
use Rattle.topology.specs.declared.node.Node.TheVariants.{Client as client}
use Rattle.topology.specs.Rows.{TopologyState}
use Rattle.topology.specs.Rules.{IsTopology}
use Rattle.topology.specs.Chains.{NatPasts, Passing, way_out}
use Rattle.td_chain.specs.ChainRules.{is_chain}
use Rattle.td_chain.specs.Walk.{live_at, walk}
use Rattle.history.specs.declared.mark.Mark.{Mark}
use Rattle.history.specs.declared.mark.Mark.TheVariants as mark
use Rattle.history.specs.declared.mark.Loss.{Loss}
use Rattle.history.specs.declared.mark.Loss.TheVariants as loss
use Rattle.history.specs.Full.{Full}
use Rattle.history.specs.Records.{marks_of}
use Rattle.legal.specs.Lab.{Lab}
use Rattle.legal.specs.Legal.{Grown}
use Rattle.legal.specs.Past.{nat_pasts}
use Rattle.legal.specs.Actors.{IsActOf}

-- what walks show by the mark of a send of a client: nothing of one that was to fail, which comes to no NAT
abbrev pub walk_lost : (Ep → List Passing) → Loss → Ep → List Passing
walk_lost walks loss.Fault dst = []
walk_lost walks _ dst = walks dst

-- what walks show by the mark of a send of a client
abbrev pub walk_marked : (Ep → List Passing) → Mark → List Passing
walk_marked walks (mark.Udp number src dst len) = walks dst
walk_marked walks (mark.Six number relay len) = []
walk_marked walks (mark.Lost why dst len) = walk_lost walks why dst

-- the walk of a datagram that a client sent at m, after this history
abbrev pub walk_of : Lab → List Full → ℕ → ClientNode → Ep → List Passing
walk_of lab H m c dst = walk lab.topology (nat_pasts lab H) m dst (way_out lab.chain c.nat) c.inside

-- what NATs let out of a client's record, in their order, is what the walks after it show, mark by mark
abbrev pub PassedIsWalked : Type 0
PassedIsWalked = (lab : Lab) (H : List Full) (r : Full) (n : ℕ) (c : ClientNode) (e : Entry) → IsTopology lab.topology
    → is_chain lab.topology lab.chain ≡ true → Grown lab (r ∷ H) → IsActOf lab H r n (client c) e
    → reverse r.passed ≡ flat_map (walk_marked (walk_of lab (r ∷ H) r.moment c)) (marks_of r.first r.made)

-- the NAT that let it out has its port live for it
abbrev pub HasItsPort : TopologyState → NatPasts → ℕ → Passing → Type 0
HasItsPort t h m p = live_at t h m p.nat p.datagram.inside p.datagram.dst ≡ Some p.datagram.port

-- so does each NAT that let something out of a client's record, after it
abbrev pub WaysKeepPorts : Type 0
WaysKeepPorts = (lab : Lab) (H : List Full) (r : Full) (n : ℕ) (c : ClientNode) (e : Entry) → IsTopology lab.topology
    → is_chain lab.topology lab.chain ≡ true → Grown lab (r ∷ H) → IsActOf lab H r n (client c) e
    → AllByRecursion (HasItsPort lab.topology (nat_pasts lab (r ∷ H)) r.moment) r.passed
