-- Who reaches whom, finer: the word on two hosts after a history, that of their table.
use Rattle.std.specs.Prelude.{ℕ, ◌==◌, if◌then◌else◌, List, Option, Some, None, option_map}
use Rattle.topology.specs.declared.relay_node.RelayNode.{RelayNode}
use Rattle.topology.specs.declared.node.Node.{Node}
use Rattle.topology.specs.declared.node.Node.TheVariants.{Client as client, Native as native}
use Rattle.topology.specs.Topology.{node_at, relay_at}
use Rattle.history.specs.Full.{Full}
use Rattle.legal.specs.Lab.{Lab}
use Rattle.theory_reaching.specs.FinerWords.{Finer}
use Rattle.theory_reaching.specs.FinerClients.{finer_two, finer_clients_row}
use Rattle.theory_reaching.specs.FinerRelayed.{finer_relayed, finer_out_row, finer_back_row}

-- the finer word on two nodes, where it is known
abbrev pub finer_between : Lab → List Full → ℕ → ℕ → Option Node → Option Node → Option Finer
finer_between lab H n m (Some (client a)) (Some (client b)) = if n == m then None else Some (finer_clients_row (finer_two lab H n m a b))
finer_between lab H n m (Some (client a)) (Some (native h)) =
    option_map (λ (r : RelayNode). finer_out_row (finer_relayed lab H n a h r)) (relay_at lab.topology h.relay)
finer_between lab H n m (Some (native h)) (Some (client b)) =
    option_map (λ (r : RelayNode). finer_back_row (finer_relayed lab H m b h r)) (relay_at lab.topology h.relay)
finer_between lab H n m _ _ = None

-- the word on node n and node m: none where they are one, or no two hosts of which one is a client
unfoldable pub finer_of : Lab → List Full → ℕ → ℕ → Option Finer
finer_of lab H n m = finer_between lab H n m (node_at lab.topology n) (node_at lab.topology m)
