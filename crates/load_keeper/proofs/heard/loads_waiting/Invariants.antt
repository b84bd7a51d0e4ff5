use Rattle.load_keeper.proofs.Words.{loads_waiting, take, ◌≡◌}
use Rattle.load_keeper.proofs.heard.loads_waiting.Given as goal

abbrev pub invariant-loop-one : goal.invariant-loop-one
invariant-loop-one l = l.loads.items ≡ loads_waiting (take l.one-index l.kept) l.who
