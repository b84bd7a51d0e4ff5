use Rattle.theory_answers.proofs.LawProofs.{histories_tell_at_once}
use Rattle.theory_answers.proofs.laws.histories_tell_at_once.Goals as goal

pub returns : goal.returns
returns c = histories_tell_at_once
