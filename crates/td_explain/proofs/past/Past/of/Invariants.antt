use Rattle.td_explain.proofs.Words.{◌-◌}
use Rattle.td_explain.proofs.EarlierLaws.{NotesFront}
use Rattle.td_explain.proofs.past.Past.of.Given as goal

abbrev pub invariant-records : goal.invariant-records
invariant-records l = NotesFront l.settings l.earlier l.past l.at l.place

abbrev pub decreases-records : goal.decreases-records
decreases-records l = l.earlier.count - l.place
