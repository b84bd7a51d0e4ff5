use Rattle.theory_ways.proofs.LawProofs.{settled_is_along}
use Rattle.theory_ways.proofs.laws.settled_is_along.Goals as goal

pub returns : goal.returns
returns c = settled_is_along
