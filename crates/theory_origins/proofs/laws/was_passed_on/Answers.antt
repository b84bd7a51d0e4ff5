use Rattle.theory_origins.proofs.LawProofs.{was_passed_on}
use Rattle.theory_origins.proofs.laws.was_passed_on.Goals as goal

pub returns : goal.returns
returns c = was_passed_on
