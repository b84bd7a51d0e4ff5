use Rattle.load_keeper.proofs.Words.{loads_held, take, ◌≡◌}
use Rattle.load_keeper.proofs.heard.loads_held.Given as goal

abbrev pub invariant-loop-one : goal.invariant-loop-one
invariant-loop-one l = l.held.items ≡ loads_held (take l.one-index l.kept) l.who
