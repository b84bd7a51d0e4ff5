use Rattle.theory_answers.proofs.LawProofs.{answers_are_taken}
use Rattle.theory_answers.proofs.laws.answers_are_taken.Goals as goal

pub returns : goal.returns
returns c = answers_are_taken
