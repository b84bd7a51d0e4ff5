use Rattle.theory_ends.proofs.LawProofs.{others_never_arrive}
use Rattle.theory_ends.proofs.laws.others_never_arrive.Goals as goal

pub returns : goal.returns
returns c = others_never_arrive
