use Rattle.legal.proofs.LawProofs.{asked_for}
use Rattle.legal.proofs.laws.asked_for.Goals as goal

pub returns : goal.returns
returns c = asked_for
