-- Who reaches whom: the word on two hosts after a history, that of their table.
use Rattle.std.specs.Prelude.{ℕ, ◌==◌, if◌then◌else◌, List, Option, Some, None, option_map}
use Rattle.topology.specs.declared.relay_node.RelayNode.{RelayNode}
use Rattle.topology.specs.declared.node.Node.{Node}
use Rattle.topology.specs.declared.node.Node.TheVariants.{Client as client, Native as native}
use Rattle.topology.specs.Topology.{node_at, relay_at}
use Rattle.history.specs.Full.{Full}
use Rattle.legal.specs.Lab.{Lab}
use Rattle.theory_reaching.specs.declared.word.Reach.{Reach}
use Rattle.theory_reaching.specs.BetweenClients.{two_clients, between_clients_row}
use Rattle.theory_reaching.specs.ThroughRelay.{relayed}
use Rattle.theory_reaching.specs.ToNative.{to_native_row}
use Rattle.theory_reaching.specs.FromNative.{from_native_row}

-- the word on two nodes, where there is one
abbrev pub reach_between : Lab → List Full → ℕ → ℕ → Option Node → Option Node → Option Reach
reach_between lab H n m (Some (client a)) (Some (client b)) = if n == m then None else Some (between_clients_row (two_clients lab H n m a b))
reach_between lab H n m (Some (client a)) (Some (native h)) =
    option_map (λ (r : RelayNode). to_native_row (relayed lab H n a h r)) (relay_at lab.topology h.relay)
reach_between lab H n m (Some (native h)) (Some (client b)) =
    option_map (λ (r : RelayNode). from_native_row (relayed lab H m b h r)) (relay_at lab.topology h.relay)
reach_between lab H n m _ _ = None

-- *word on two hosts*: that of the first line of their table whose condition holds after a history; none for two native
-- hosts. `docs/REACH.md` has the tables.
-- the word on node n and node m: none where they are one, or no two hosts of which one is a client
unfoldable pub reach_of : Lab → List Full → ℕ → ℕ → Option Reach
reach_of lab H n m = reach_between lab H n m (node_at lab.topology n) (node_at lab.topology m)
