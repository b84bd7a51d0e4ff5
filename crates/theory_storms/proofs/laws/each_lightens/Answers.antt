use Rattle.theory_storms.proofs.LawProofs.{each_lightens}
use Rattle.theory_storms.proofs.laws.each_lightens.Goals as goal

pub returns : goal.returns
returns c = each_lightens
