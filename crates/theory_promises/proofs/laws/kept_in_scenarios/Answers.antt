use Rattle.theory_promises.proofs.LawProofs.{kept_in_scenarios}
use Rattle.theory_promises.proofs.laws.kept_in_scenarios.Goals as goal

pub returns : goal.returns
returns c = kept_in_scenarios
