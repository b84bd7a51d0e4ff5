use Rattle.states.proofs.LawProofs.{passed_is_walked}
use Rattle.states.proofs.laws.passed_is_walked.Goals as goal

pub returns : goal.returns
returns c = passed_is_walked
