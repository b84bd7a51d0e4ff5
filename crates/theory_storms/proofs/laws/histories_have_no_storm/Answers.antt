use Rattle.theory_storms.proofs.LawProofs.{histories_have_no_storm}
use Rattle.theory_storms.proofs.laws.histories_have_no_storm.Goals as goal

pub returns : goal.returns
returns c = histories_have_no_storm
