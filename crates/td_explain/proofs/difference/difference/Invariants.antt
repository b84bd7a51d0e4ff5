use Rattle.td_explain.proofs.Words.{difference, drop, ◌+◌, ◌-◌, ◌≡◌, ◌≤◌}
use Rattle.td_explain.proofs.difference.difference.Given as goal

abbrev pub invariant-loop-at : goal.invariant-loop-at
invariant-loop-at l = record {
  within : l.at ≤ l.most;
  far : difference l.one l.other ≡ l.at + difference (drop l.at l.one) (drop l.at l.other);
}

abbrev pub decreases-loop-at : goal.decreases-loop-at
decreases-loop-at l = l.most - l.at
