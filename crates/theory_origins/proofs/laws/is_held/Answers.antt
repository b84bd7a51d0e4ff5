use Rattle.theory_origins.proofs.LawProofs.{is_held}
use Rattle.theory_origins.proofs.laws.is_held.Goals as goal

pub returns : goal.returns
returns c = is_held
