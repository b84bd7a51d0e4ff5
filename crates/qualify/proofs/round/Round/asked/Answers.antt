use Rattle.qualify.proofs.Words.{rules}
use Rattle.qualify.proofs.round.Round.asked.Goals as goal

pub returns-clause-due : goal.returns-clause-due
returns-clause-due c = search rules
