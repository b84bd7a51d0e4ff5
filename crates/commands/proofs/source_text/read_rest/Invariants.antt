use Rattle.commands.proofs.Words.{Consumes, RisesBy, Stays, length, ◌-◌, ◌≡◌, ◌≤◌}
use Rattle.commands.proofs.source_text.read_rest.Given as goal

abbrev pub invariant-loop-piece : goal.invariant-loop-piece
invariant-loop-piece g l = record {
  few : length l.text.items ≤ l.most;
  consumed : Consumes (g.S.Source.state l.fn.src).left (g.S.Source.state l.src).left l.text.items;
  asked : Stays (g.S.Source.state l.fn.src).openings (g.S.Source.state l.src).openings;
  taken : RisesBy (g.S.Source.state l.fn.src).taken (g.S.Source.state l.src).taken (length l.text.items);
  same : (g.S.Source.state l.src).faults ≡ (g.S.Source.state l.fn.src).faults;
}

abbrev pub decreases-loop-piece : goal.decreases-loop-piece
decreases-loop-piece g l = l.most - length l.text.items
