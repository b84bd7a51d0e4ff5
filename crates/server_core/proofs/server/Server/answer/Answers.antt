use Rattle.server_core.proofs.Silence.{ends_there}
use Rattle.server_core.proofs.server.Server.answer.Goals as goal

pub returns-clause-quiet : goal.returns-clause-quiet
returns-clause-quiet c = ends_there _ _ _
