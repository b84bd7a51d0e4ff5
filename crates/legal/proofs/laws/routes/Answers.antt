use Rattle.legal.proofs.LawProofs.{routes}
use Rattle.legal.proofs.laws.routes.Goals as goal

pub returns : goal.returns
returns c = routes
