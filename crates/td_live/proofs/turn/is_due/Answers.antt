use Rattle.td_live.proofs.Words.{rules}
use Rattle.td_live.proofs.turn.is_due.Goals as goal

pub returns-in-Some-clause-due : goal.returns-in-Some-clause-due
returns-in-Some-clause-due c = search rules

pub returns-in-Some-clause-owed : goal.returns-in-Some-clause-owed
returns-in-Some-clause-owed c = search rules
