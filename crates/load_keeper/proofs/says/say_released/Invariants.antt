use Rattle.load_keeper.proofs.Words.{said_of_released, take, ◌++◌, ◌≡◌}
use Rattle.load_keeper.proofs.says.say_released.Given as goal

abbrev pub invariant-loop-i : goal.invariant-loop-i
invariant-loop-i l = l.said.items ≡ l.fn.said.items ++ said_of_released l.marks (take l.i l.loads)
