use Rattle.load_keeper.proofs.Words.{says_of_held, take, ◌++◌, ◌≡◌}
use Rattle.load_keeper.proofs.says.say_held.Given as goal

abbrev pub invariant-loop-one : goal.invariant-loop-one
invariant-loop-one l = l.said.items ≡ l.fn.said.items ++ says_of_held l.late (take l.one-index l.held)
