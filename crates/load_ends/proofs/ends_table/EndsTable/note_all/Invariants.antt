use Rattle.load_ends.proofs.Words.{fold, rows_after_saying, take, ◌≡◌}
use Rattle.load_ends.proofs.ends_table.EndsTable.note_all.Given as goal

abbrev pub invariant-loop-saying : goal.invariant-loop-saying
invariant-loop-saying l = l.self.rows.items ≡ fold (rows_after_saying l.index) l.fn.self.rows.items (take l.saying-index l.said)
