use Rattle.theory_storms.proofs.LawProofs.{few_wait}
use Rattle.theory_storms.proofs.laws.few_wait.Goals as goal

pub returns : goal.returns
returns c = few_wait
