use Rattle.theory_origins.proofs.LawProofs.{late_is_foreign}
use Rattle.theory_origins.proofs.laws.late_is_foreign.Goals as goal

pub returns : goal.returns
returns c = late_is_foreign
