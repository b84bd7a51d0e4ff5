use Rattle.nat_kinds.proofs.LawProofs.{asked_are_few}
use Rattle.nat_kinds.proofs.laws.asked_are_few.Goals as goal

pub returns : goal.returns
returns c = asked_are_few
