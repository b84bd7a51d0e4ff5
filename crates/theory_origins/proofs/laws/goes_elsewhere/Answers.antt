use Rattle.theory_origins.proofs.LawProofs.{goes_elsewhere}
use Rattle.theory_origins.proofs.laws.goes_elsewhere.Goals as goal

pub returns : goal.returns
returns c = goes_elsewhere
