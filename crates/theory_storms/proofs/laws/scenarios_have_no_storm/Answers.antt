use Rattle.theory_storms.proofs.LawProofs.{scenarios_have_no_storm}
use Rattle.theory_storms.proofs.laws.scenarios_have_no_storm.Goals as goal

pub returns : goal.returns
returns c = scenarios_have_no_storm
