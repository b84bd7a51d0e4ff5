use Rattle.theory_storms.proofs.LawProofs.{nine_for_each}
use Rattle.theory_storms.proofs.laws.nine_for_each.Goals as goal

pub returns : goal.returns
returns c = nine_for_each
