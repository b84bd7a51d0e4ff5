use Rattle.theory_reaching.proofs.LawProofs.{off_makes_nothing}
use Rattle.theory_reaching.proofs.unreached.off_makes_nothing.Goals as goal

pub returns : goal.returns
returns c = off_makes_nothing
