use Rattle.theory_storms.proofs.LawProofs.{delivery_exchanges}
use Rattle.theory_storms.proofs.laws.delivery_exchanges.Goals as goal

pub returns : goal.returns
returns c = delivery_exchanges
