-- Which tick is due first, as it is found.
use Rattle.std.specs.Prelude.{◌≡◌, ◌≢◌, ◌<◌, ◌≤◌, ℕ, List, length, slice_get, Option, Some, None, option_map}
use Rattle.td_base.specs.declared.millis.Millis.{Millis}
use Rattle.peer_list.specs.Overdue.{IsNoSooner}
use Rattle.topology.specs.declared.node.Node.{Node}
use Rattle.history.specs.Full.{Full}
use Rattle.legal.specs.Emit.{tick_due}
use Rattle.legal.specs.Next.{DueNode}
use Rattle.legal.specs.Lab.{Lab}
use Rattle.lab_nodes.specs.declared.due.Due.{Due}
use Rattle.lab_nodes.specs.declared.played_node.PlayedNode.{PlayedNode}
use Rattle.lab_nodes.specs.PlayedNode.{row_of, past_of, IsKept, IsReady}

-- when it is due, and of which node
abbrev pub due_as : DueNode → Due
due_as x = record { moment = record { 0 = x.moment }; node = x.number }

-- the tick of node n, as it stands at the moment m
abbrev pub tick_of : Lab → List Full → ℕ → ℕ → Node → Option DueNode
tick_of lab H m n a = option_map (λ (k : ℕ). record { moment = k; number = n; node = a }) (tick_due lab H m n a)

-- the moment of a tick that is due
abbrev pub tick_moment : DueNode → ℕ
tick_moment x = x.moment

-- no tick is due up to a moment
abbrev pub NoneIsDue : ℕ → Option DueNode → Type 0
NoneIsDue end None = Unit {0}
NoneIsDue end (Some x) = end < x.moment

-- WHICH NODES NEEDN'T BE ASKED

-- no tick of a node is due before this, whatever happened to it of what it stands for, and whenever it is asked
abbrev pub IsQuietNode : Millis → PlayedNode → Type 0
IsQuietNode until p = (lab : Lab) (H : List Full) (n m : ℕ) → IsReady m p → IsKept lab.topology n (past_of lab n H) p
    → IsNoSooner until.0 (tick_due lab H m n (row_of p))

-- each of the nodes is quiet until the moment in its place, but for one
pub record AreQuietBut (but : ℕ) (list : List PlayedNode) (quiet : List Millis) : Type 0 where
  pub same : length quiet ≡ length list
  pub each : (n : ℕ) → n ≢ but → (p : PlayedNode) (q : Millis) → slice_get list n ≡ Some p → slice_get quiet n ≡ Some q → IsQuietNode q p

-- each of them
pub record AreQuiet (list : List PlayedNode) (quiet : List Millis) : Type 0 where
  pub same : length quiet ≡ length list
  pub each : (n : ℕ) (p : PlayedNode) (q : Millis) → slice_get list n ≡ Some p → slice_get quiet n ≡ Some q → IsQuietNode q p

-- none of the bounds is sooner than this one
abbrev pub NoneIsSooner : Millis → List Millis → Type 0
NoneIsSooner soonest quiet = (n : ℕ) (q : Millis) → slice_get quiet n ≡ Some q → soonest.0 ≤ q.0

-- each of the nodes is quiet until the moment in its place, and all of them are until the soonest
pub record AreQuietWith (soonest : Millis) (list : List PlayedNode) (quiet : List Millis) : Type 0 where
  pub each : AreQuiet list quiet
  pub none : NoneIsSooner soonest quiet
