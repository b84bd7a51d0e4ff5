use Rattle.theory_verdicts.proofs.LawProofs.{addresses_stay}
use Rattle.theory_verdicts.proofs.laws.addresses_stay.Goals as goal

pub returns : goal.returns
returns c = addresses_stay
