use Rattle.theory_ways.proofs.LawProofs.{enters_by_its_way}
use Rattle.theory_ways.proofs.laws.enters_by_its_way.Goals as goal

pub returns : goal.returns
returns c = enters_by_its_way
