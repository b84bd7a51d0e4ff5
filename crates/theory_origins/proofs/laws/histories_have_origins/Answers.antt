use Rattle.theory_origins.proofs.LawProofs.{histories_have_origins}
use Rattle.theory_origins.proofs.laws.histories_have_origins.Goals as goal

pub returns : goal.returns
returns c = histories_have_origins
