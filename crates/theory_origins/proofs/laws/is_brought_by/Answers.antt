use Rattle.theory_origins.proofs.LawProofs.{is_brought_by}
use Rattle.theory_origins.proofs.laws.is_brought_by.Goals as goal

pub returns : goal.returns
returns c = is_brought_by
