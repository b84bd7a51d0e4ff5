use Rattle.nat_kinds.proofs.LawProofs.{cone_lets_all_in}
use Rattle.nat_kinds.proofs.laws.cone_lets_all_in.Goals as goal

pub returns : goal.returns
returns c = cone_lets_all_in
