use Rattle.lab_nodes.proofs.Words.{length, ◌-◌, ◌≤◌}
use Rattle.lab_nodes.proofs.Dues.{FirstSoFar}
use Rattle.lab_nodes.proofs.due.first_due.Given as goal

abbrev pub invariant-ticking : goal.invariant-ticking
invariant-ticking l = record {
  within : l.end ≤ length l.nodes;
  upto : l.number ≤ l.end;
  so : FirstSoFar l.nodes l.at.0 l.number l.first;
}

abbrev pub decreases-ticking : goal.decreases-ticking
decreases-ticking l = l.end - l.number
