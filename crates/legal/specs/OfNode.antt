-- A record of a node: what this did in it, or nothing.
use Rattle.std.specs.Prelude.{◌≡◌, ◌⊎◌, ℕ, List, [], Some, None}
use Rattle.teredo_node.specs.declared.fate.Fate.TheVariants.{NatClosed, Done}
use Rattle.teredo_node.specs.Journal.{Entry}
use Rattle.topology.specs.declared.node.Node.{Node}
use Rattle.topology.specs.Topology.{node_at}
use Rattle.history.specs.Full.{Full}
use Rattle.legal.specs.Lab.{Lab}
use Rattle.legal.specs.Legal.{Follows}
use Rattle.legal.specs.Actors.{IsActOf}

-- nothing: a NAT lets nothing in, or the event is over with the node's new start or with what it forgot
pub record DoesNothing (r : Full) : Type 0 where
  pub entry : r.entry ≡ None
  pub address : r.address ≡ None
  pub handed : r.handed ≡ None
  pub late : r.late ≡ []
  pub made : r.made ≡ []
  pub passed : r.passed ≡ []
  pub fate : (r.fate ≡ NatClosed) ⊎ (r.fate ≡ Done)

-- of node n, which is a
pub data OfNode (lab : Lab) (H : List Full) (r : Full) (n : ℕ) (a : Node) : Type 0 where
  rests : DoesNothing r → OfNode lab H r n a
  acts : (e : Entry) → IsActOf lab H r n a e → OfNode lab H r n a

-- a record of a node that is there says what this did, or that it did nothing
abbrev pub EachIsOfNode : Type 0
EachIsOfNode = (lab : Lab) (H : List Full) (r : Full) (n : ℕ) (a : Node) → Follows lab H r → r.node ≡ Some n → node_at lab.topology n ≡ Some a
    → OfNode lab H r n a
