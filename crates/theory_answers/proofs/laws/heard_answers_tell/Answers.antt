use Rattle.theory_answers.proofs.LawProofs.{heard_answers_tell}
use Rattle.theory_answers.proofs.laws.heard_answers_tell.Goals as goal

pub returns : goal.returns
returns c = heard_answers_tell
