-- How what is kept of a node changes.
use Rattle.std.specs.Prelude.{◌≡◌, ◌≢◌, ℕ, ◌+◌, List, map, slice_get, Some}
use Rattle.teredo_node.specs.Journal.{Entry, with_entry}
use Rattle.topology.specs.Rows.{TopologyState}
use Rattle.legal.specs.Past.{new_journal}
use Rattle.lab_nodes.specs.declared.played_node.PlayedNode.{PlayedNode}
use Rattle.lab_nodes.specs.PlayedNode.{row_of, NodePast, IsKept}

-- the past with a new start at m: the words go on
abbrev pub restarted : ℕ → NodePast → NodePast
restarted m x = record { journal = new_journal m; words = x.words }

-- the past with one call more
abbrev pub with_call : Entry → NodePast → NodePast
with_call e x = record { journal = with_entry x.journal e; words = λ k. x.words (e.step.drawn + k) }

-- a node that is as before stands for what it stood for
abbrev pub PlayedAsBefore : PlayedNode → PlayedNode → Type 0
PlayedAsBefore old new = (t : TopologyState) (n : ℕ) (x : NodePast) → IsKept t n x old → IsKept t n x new

-- a node that starts anew at m stands for its past with that
abbrev pub Restarts : ℕ → PlayedNode → PlayedNode → Type 0
Restarts m old new = (t : TopologyState) (n : ℕ) (x : NodePast) → IsKept t n x old → IsKept t n (restarted m x) new

-- The node of a number changes so, and keeps its row. The others stay.
pub record ChangesAt (does : PlayedNode → PlayedNode → Type 0) (n : ℕ) (old new : List PlayedNode) : Type 0 where
  pub before : PlayedNode
  pub after : PlayedNode
  pub was : slice_get old n ≡ Some before
  pub is : slice_get new n ≡ Some after
  pub change : does before after
  pub elsewhere : (k : ℕ) → k ≢ n → slice_get new k ≡ slice_get old k
  pub rows : map row_of new ≡ map row_of old
