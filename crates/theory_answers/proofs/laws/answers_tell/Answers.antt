use Rattle.theory_answers.proofs.LawProofs.{answers_tell}
use Rattle.theory_answers.proofs.laws.answers_tell.Goals as goal

pub returns : goal.returns
returns c = answers_tell
