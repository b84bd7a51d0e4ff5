use Rattle.theory_settled.proofs.LawProofs.{address_is_own}
use Rattle.theory_settled.proofs.laws.address_is_own.Goals as goal

pub returns : goal.returns
returns c = address_is_own
