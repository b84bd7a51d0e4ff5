use Rattle.td_base.proofs.LawProofs.{texts_are_made}
use Rattle.td_base.proofs.laws.texts_are_made.Goals as goal

pub returns : goal.returns
returns c = texts_are_made
