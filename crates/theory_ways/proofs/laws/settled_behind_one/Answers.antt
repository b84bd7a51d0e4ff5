use Rattle.theory_ways.proofs.LawProofs.{settled_behind_one}
use Rattle.theory_ways.proofs.laws.settled_behind_one.Goals as goal

pub returns : goal.returns
returns c = settled_behind_one
