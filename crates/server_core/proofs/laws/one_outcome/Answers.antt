use Rattle.server_core.proofs.LawProofs.{one_outcome}
use Rattle.server_core.proofs.laws.one_outcome.Goals as goal

pub returns : goal.returns
returns c = one_outcome
