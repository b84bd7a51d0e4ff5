use Rattle.lab_nodes.proofs.Words.{length, ◌≡◌}
use Rattle.lab_nodes.proofs.Quiet.{EachQuiet}
use Rattle.lab_nodes.proofs.nodes.quiet_of.Given as goal

abbrev pub invariant-loop-node : goal.invariant-loop-node
invariant-loop-node l = record {
  same : length l.quiet.items ≡ l.node-index;
  each : EachQuiet l.nodes l.quiet.items;
}
