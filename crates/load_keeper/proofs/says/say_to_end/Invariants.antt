use Rattle.load_keeper.proofs.Words.{says_to_end, take, ◌++◌, ◌≡◌}
use Rattle.load_keeper.proofs.says.say_to_end.Given as goal

abbrev pub invariant-loop-load : goal.invariant-loop-load
invariant-loop-load l = l.said.items ≡ l.fn.said.items ++ says_to_end (take l.load-index l.loads)
