use Rattle.theory_loads.proofs.LawProofs.{arrivals_are_handed}
use Rattle.theory_loads.proofs.laws.arrivals_are_handed.Goals as goal

pub returns : goal.returns
returns c = arrivals_are_handed
