use Rattle.td_outside.proofs.Words.{rules}
use Rattle.td_outside.proofs.fails.Fails.call.Goals as goal

pub returns-then-due-clause-due : goal.returns-then-due-clause-due
returns-then-due-clause-due c = search rules

pub returns-then-due-clause-counts : goal.returns-then-due-clause-counts
returns-then-due-clause-counts c = search rules

pub returns-clause-due : goal.returns-clause-due
returns-clause-due c = search rules

pub returns-clause-counts : goal.returns-clause-counts
returns-clause-counts c = search rules
