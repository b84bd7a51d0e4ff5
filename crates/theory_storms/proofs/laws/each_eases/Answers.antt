use Rattle.theory_storms.proofs.LawProofs.{each_eases}
use Rattle.theory_storms.proofs.laws.each_eases.Goals as goal

pub returns : goal.returns
returns c = each_eases
