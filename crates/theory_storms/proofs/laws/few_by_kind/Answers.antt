use Rattle.theory_storms.proofs.LawProofs.{few_by_kind}
use Rattle.theory_storms.proofs.laws.few_by_kind.Goals as goal

pub returns : goal.returns
returns c = few_by_kind
