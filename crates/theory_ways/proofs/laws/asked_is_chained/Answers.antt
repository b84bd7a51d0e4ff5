use Rattle.theory_ways.proofs.LawProofs.{asked_is_chained}
use Rattle.theory_ways.proofs.laws.asked_is_chained.Goals as goal

pub returns : goal.returns
returns c = asked_is_chained
