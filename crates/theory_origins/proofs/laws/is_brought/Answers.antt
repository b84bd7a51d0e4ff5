use Rattle.theory_origins.proofs.LawProofs.{is_brought}
use Rattle.theory_origins.proofs.laws.is_brought.Goals as goal

pub returns : goal.returns
returns c = is_brought
