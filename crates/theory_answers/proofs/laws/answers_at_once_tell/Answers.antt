use Rattle.theory_answers.proofs.LawProofs.{answers_at_once_tell}
use Rattle.theory_answers.proofs.laws.answers_at_once_tell.Goals as goal

pub returns : goal.returns
returns c = answers_at_once_tell
