use Rattle.theory_origins.proofs.LawProofs.{is_live}
use Rattle.theory_origins.proofs.laws.is_live.Goals as goal

pub returns : goal.returns
returns c = is_live
