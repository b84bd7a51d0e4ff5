use Rattle.teredo_app.proofs.Words.{rules}
use Rattle.teredo_app.proofs.program.run.Goals as goal

pub returns-in-Show-clause-network : goal.returns-in-Show-clause-network
returns-in-Show-clause-network g c = search rules
