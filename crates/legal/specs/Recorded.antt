-- Where an entry of a node's journal stands in the history: the record in which the node did it.
use Rattle.std.specs.Prelude.{◌≡◌, ℕ, List, ◌∷◌, ◌++◌, Contains}
use Rattle.teredo_node.specs.Journal.{Entry}
use Rattle.topology.specs.declared.node.Node.{Node}
use Rattle.history.specs.Full.{Full}
use Rattle.legal.specs.Lab.{Lab}
use Rattle.legal.specs.Past.{journal}
use Rattle.legal.specs.Legal.{Grown}
use Rattle.legal.specs.Actors.{IsActOf}

-- *recorded*: an entry of a node's journal is what the node did in one of the records.
-- the records split at one of node n's acts, in which it did e
pub record IsRecorded (lab : Lab) (H : List Full) (n : ℕ) (e : Entry) : Type 0 where
  pub later : List Full
  pub record_of : Full
  pub earlier : List Full
  pub split : H ≡ later ++ record_of ∷ earlier
  pub node : Node
  pub act : IsActOf lab earlier record_of n node e

-- each entry of a journal has such a record
abbrev pub EachIsRecorded : Type 0
EachIsRecorded = (lab : Lab) (H : List Full) (n : ℕ) (e : Entry) → Grown lab H → Contains (journal n H).entries e → IsRecorded lab H n e
