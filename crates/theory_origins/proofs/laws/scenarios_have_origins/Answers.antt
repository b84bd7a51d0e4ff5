use Rattle.theory_origins.proofs.LawProofs.{scenarios_have_origins}
use Rattle.theory_origins.proofs.laws.scenarios_have_origins.Goals as goal

pub returns : goal.returns
returns c = scenarios_have_origins
