use Rattle.server_core.proofs.LawProofs.{one_output}
use Rattle.server_core.proofs.laws.one_output.Goals as goal

pub returns : goal.returns
returns c = one_output
