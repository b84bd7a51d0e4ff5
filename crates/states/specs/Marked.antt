-- Of a client behind one NAT the marks of a record tell what that NAT let out.
use Rattle.std.specs.Prelude.{◌≡◌, ℕ, List, [], ◌∷◌, filter_map, reverse, Option, Some, None}
use Rattle.td_base.specs.declared.endpoint.Ep.{Ep}
use Rattle.teredo_node.specs.Journal.{Entry}
use Rattle.topology.specs.declared.client_node.ClientNode.{ClientNode}
use Rattle.topology.specs.declared.node.Node.TheVariants.{Client as client}
use Rattle.topology.specs.Chains.{Passing, passing, way_out}
use Rattle.history.specs.declared.mark.Mark.{Mark}
use Rattle.history.specs.declared.mark.Mark.TheVariants as mark
use Rattle.history.specs.Full.{Full}
use Rattle.history.specs.Records.{marks_of}
use Rattle.legal.specs.Lab.{Lab}
use Rattle.legal.specs.Actors.{IsActOf}

-- what NAT k let out at m, if this is the mark of what an endpoint behind it sent: from the port that the mark tells
abbrev pub passing_marked : ℕ → ℕ → Ep → Mark → Option Passing
passing_marked k m inside (mark.Udp number src dst len) = Some (passing k m inside dst src.port)
passing_marked k m inside (mark.Six number relay len) = None
passing_marked k m inside (mark.Lost why dst len) = None

-- in the order of the sends
abbrev pub PassedIsMarked : Type 0
PassedIsMarked = (lab : Lab) (H : List Full) (r : Full) (n : ℕ) (c : ClientNode) (e : Entry) → IsActOf lab H r n (client c) e
    → way_out lab.chain c.nat ≡ c.nat ∷ []
    → reverse r.passed ≡ filter_map (passing_marked c.nat r.moment c.inside) (marks_of r.first r.made)
