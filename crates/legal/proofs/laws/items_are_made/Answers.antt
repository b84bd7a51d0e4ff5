use Rattle.legal.proofs.LawProofs.{items_are_made}
use Rattle.legal.proofs.laws.items_are_made.Goals as goal

pub returns : goal.returns
returns c = items_are_made
