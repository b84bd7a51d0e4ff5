use Rattle.theory_origins.proofs.LawProofs.{honest_scenarios}
use Rattle.theory_origins.proofs.laws.honest_scenarios.Goals as goal

pub returns : goal.returns
returns c = honest_scenarios
