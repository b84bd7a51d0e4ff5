use Rattle.theory_origins.proofs.LawProofs.{own_sources}
use Rattle.theory_origins.proofs.laws.own_sources.Goals as goal

pub returns : goal.returns
returns c = own_sources
