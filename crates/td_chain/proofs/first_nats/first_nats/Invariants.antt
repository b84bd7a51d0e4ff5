use Rattle.td_chain.proofs.Words.{NODES_MAX, length, ◌-◌}
use Rattle.td_chain.proofs.ThereLemmas.{FirstNats}
use Rattle.td_chain.proofs.first_nats.first_nats.Given as goal

abbrev pub invariant-loop-node : goal.invariant-loop-node
invariant-loop-node l = FirstNats l.topology l.list.items

abbrev pub decreases-loop-node : goal.decreases-loop-node
decreases-loop-node l = NODES_MAX - length l.list.items
