-- `away`: whatever the sender's host hands in next, for whatever address, nothing at all comes to the receiver's host: it isn't qualified, and no
-- datagram that is drawn makes it so.
use Rattle.std.specs.Prelude.{◌≡◌, ℕ, List, ◌∷◌, ◌++◌, Some}
use Rattle.topology.specs.declared.client_node.ClientNode.{ClientNode}
use Rattle.topology.specs.declared.node.Node.{Node}
use Rattle.topology.specs.declared.node.Node.TheVariants.{Client as client}
use Rattle.topology.specs.Rules.{IsTopology}
use Rattle.topology.specs.Topology.{node_at}
use Rattle.history.specs.Full.{Full}
use Rattle.legal.specs.Lab.{Lab}
use Rattle.legal.specs.Legal.{Grown}
use Rattle.theory_first_packets.specs.Schedules.{AreFresh}
use Rattle.theory_reaching.specs.declared.word.Reach.TheVariants as word
use Rattle.theory_reaching.specs.Reach.{reach_of}
use Rattle.theory_reaching.specs.Promises.{IsShut}
use Rattle.theory_reaching.specs.Silent.{HandsIn}

-- x is what the sender's host hands in, and y any packet
abbrev pub AwayBringsNothingIn : Lab → List Full → Type 0
AwayBringsNothingIn lab H = (q : Full) (later : List Full) (n m : ℕ) (a : Node) (d : ClientNode) (x y : List ℕ) → Grown lab (later ++ q ∷ H)
    → node_at lab.topology n ≡ Some a → node_at lab.topology m ≡ Some (client d) → reach_of lab H n m ≡ Some word.Away → HandsIn q n x
    → AreFresh q later → IsShut m (client d) y later

-- whatever a host hands in, nothing comes to the host of a client that isn't qualified: a server advertises to those
-- alone that ask it, and a client asks at a tick
abbrev pub AwayBringsNothing : Type 0
AwayBringsNothing = (lab : Lab) (H : List Full) → IsTopology lab.topology → AwayBringsNothingIn lab H
