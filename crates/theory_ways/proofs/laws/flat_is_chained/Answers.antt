use Rattle.theory_ways.proofs.LawProofs.{flat_is_chained}
use Rattle.theory_ways.proofs.laws.flat_is_chained.Goals as goal

pub returns : goal.returns
returns c = flat_is_chained
