use Rattle.theory_origins.proofs.LawProofs.{has_outside_origin}
use Rattle.theory_origins.proofs.laws.has_outside_origin.Goals as goal

pub returns : goal.returns
returns c = has_outside_origin
