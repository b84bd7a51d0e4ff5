use Rattle.nat_kinds.proofs.LawProofs.{owner_is_reached}
use Rattle.nat_kinds.proofs.laws.owner_is_reached.Goals as goal

pub returns : goal.returns
returns c = owner_is_reached
