use Rattle.td_audit.proofs.Words.{Judges, length, ◌-◌}
use Rattle.td_audit.proofs.auditor.verdict_on.Given as goal

abbrev pub invariant-records : goal.invariant-records
invariant-records l = Judges l.fn.settings l.head l.judge l.at l.bytes

abbrev pub decreases-records : goal.decreases-records
decreases-records l = length l.bytes - l.at
