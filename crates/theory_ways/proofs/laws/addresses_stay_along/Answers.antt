use Rattle.theory_ways.proofs.LawProofs.{addresses_stay_along}
use Rattle.theory_ways.proofs.laws.addresses_stay_along.Goals as goal

pub returns : goal.returns
returns c = addresses_stay_along
