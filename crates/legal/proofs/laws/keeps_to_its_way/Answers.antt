use Rattle.legal.proofs.LawProofs.{keeps_to_its_way}
use Rattle.legal.proofs.laws.keeps_to_its_way.Goals as goal

pub returns : goal.returns
returns c = keeps_to_its_way
