use Rattle.server_core.proofs.Words.{rules}
use Rattle.server_core.proofs.endpoint.ServerEndpoint.on_tick.Goals as goal

pub returns-clause-ticked : goal.returns-clause-ticked
returns-clause-ticked c = search rules

pub returns-clause-idle : goal.returns-clause-idle
returns-clause-idle c = search rules
