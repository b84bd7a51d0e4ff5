use Rattle.theory_verdicts.proofs.LawProofs.{scenarios_have_right_verdicts}
use Rattle.theory_verdicts.proofs.laws.scenarios_have_right_verdicts.Goals as goal

pub returns : goal.returns
returns c = scenarios_have_right_verdicts
