use Rattle.load_keeper.proofs.Words.{[], entries_by_marks, take, ◌++◌, ◌∷◌, ◌≡◌}
use Rattle.load_keeper.proofs.load_keeper.put_entries.Given as goal

abbrev pub invariant-loop-i : goal.invariant-loop-i
invariant-loop-i l = l.wire.items ≡ l.fn.wire.items ++ entries_by_marks (take l.i l.marks) (l.released ++ l.last ∷ [])
