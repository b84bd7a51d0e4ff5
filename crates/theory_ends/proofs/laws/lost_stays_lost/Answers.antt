use Rattle.theory_ends.proofs.LawProofs.{lost_stays_lost}
use Rattle.theory_ends.proofs.laws.lost_stays_lost.Goals as goal

pub returns : goal.returns
returns c = lost_stays_lost
