use Rattle.theory_answers.proofs.LawProofs.{solicitations_are_answered}
use Rattle.theory_answers.proofs.laws.solicitations_are_answered.Goals as goal

pub returns : goal.returns
returns c = solicitations_are_answered
