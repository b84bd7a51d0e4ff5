use Rattle.legal.proofs.LawProofs.{wire_is_made}
use Rattle.legal.proofs.laws.wire_is_made.Goals as goal

pub returns : goal.returns
returns c = wire_is_made
