use Rattle.theory_verdicts.proofs.LawProofs.{histories_have_right_verdicts}
use Rattle.theory_verdicts.proofs.laws.histories_have_right_verdicts.Goals as goal

pub returns : goal.returns
returns c = histories_have_right_verdicts
