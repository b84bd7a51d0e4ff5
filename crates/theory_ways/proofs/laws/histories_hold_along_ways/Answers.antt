use Rattle.theory_ways.proofs.LawProofs.{histories_hold_along_ways}
use Rattle.theory_ways.proofs.laws.histories_hold_along_ways.Goals as goal

pub returns : goal.returns
returns c = histories_hold_along_ways
