use Rattle.td_outside.proofs.Words.{rules}
use Rattle.td_outside.proofs.sockets.take.Goals as goal

pub returns-in-Shut-clause-shut : goal.returns-in-Shut-clause-shut
returns-in-Shut-clause-shut g c = search rules
