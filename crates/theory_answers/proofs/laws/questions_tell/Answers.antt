use Rattle.theory_answers.proofs.LawProofs.{questions_tell}
use Rattle.theory_answers.proofs.laws.questions_tell.Goals as goal

pub returns : goal.returns
returns c = questions_tell
