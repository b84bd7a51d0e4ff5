-- When nothing carries a load any more.
use Rattle.std.specs.Prelude.{◌≡◌, ◌≤◌, ℕ, true, false, List, Some}
use Rattle.std.specs.List.{list_any}
use Rattle.td_base.specs.declared.ipv6.Ip6.{Ip6}
use Rattle.topology.specs.Rows.{TopologyState}
use Rattle.topology.specs.declared.node.Node.{Node}
use Rattle.topology.specs.Topology.{node_at}
use Rattle.history.specs.Full.{Full}
use Rattle.legal.specs.Past.{now, was_delivered}
use Rattle.loads.specs.declared.load.Load.{Load}
use Rattle.loads.specs.Numbered.{numbered_mentions, waiting_records, HeldRecord, held_for}
use Rattle.loads.specs.Loads.{load_at, loads}
use Rattle.loads.specs.Ends.{carries}

-- *gone*, of a load after a history: nothing carries it that a node keeps, or that was never delivered.
pub record IsGone (t : TopologyState) (H : List Full) (l : Load) : Type 0 where
  -- no packet with it waits at a node, for whomever, be it then listed or not; none will, if no more happens
  pub waits : (n : ℕ) (a : Node) (m : ℕ) (p : Ip6) → node_at t n ≡ Some a → now H ≤ m
      → list_any (carries (loads t H) l) (waiting_records (numbered_mentions H n a) m p) ≡ false
  -- and none is held
  pub held : (n : ℕ) (a : Node) (m : ℕ) (p : Ip6) → node_at t n ≡ Some a → now H ≤ m
      → list_any (λ (h : HeldRecord). carries (loads t H) l h.number) (held_for (numbered_mentions H n a) m p) ≡ false
  -- each entry of the wire that carries it was delivered
  pub delivered : (e : ℕ) → load_at (loads t H).wire e ≡ Some l → was_delivered e H ≡ true
