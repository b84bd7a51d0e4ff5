use Rattle.server_core.proofs.Words.{rules}
use Rattle.server_core.proofs.in_step.send_alone.Goals as goal

pub returns : goal.returns
returns c = search rules
