use Rattle.theory_origins.proofs.LawProofs.{has_origin}
use Rattle.theory_origins.proofs.laws.has_origin.Goals as goal

pub returns : goal.returns
returns c = has_origin
