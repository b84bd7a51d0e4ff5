use Rattle.theory_storms.proofs.LawProofs.{settle_delivers_new}
use Rattle.theory_storms.proofs.laws.settle_delivers_new.Goals as goal

pub returns : goal.returns
returns c = settle_delivers_new
