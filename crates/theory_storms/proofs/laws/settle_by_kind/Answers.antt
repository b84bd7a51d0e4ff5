use Rattle.theory_storms.proofs.LawProofs.{settle_by_kind}
use Rattle.theory_storms.proofs.laws.settle_by_kind.Goals as goal

pub returns : goal.returns
returns c = settle_by_kind
