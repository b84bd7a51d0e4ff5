use Rattle.theory_answers.proofs.LawProofs.{questions_are_open}
use Rattle.theory_answers.proofs.laws.questions_are_open.Goals as goal

pub returns : goal.returns
returns c = questions_are_open
