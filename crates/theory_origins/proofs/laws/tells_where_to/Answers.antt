use Rattle.theory_origins.proofs.LawProofs.{tells_where_to}
use Rattle.theory_origins.proofs.laws.tells_where_to.Goals as goal

pub returns : goal.returns
returns c = tells_where_to
