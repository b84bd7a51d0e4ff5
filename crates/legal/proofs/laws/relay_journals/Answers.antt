use Rattle.legal.proofs.LawProofs.{relay_journals}
use Rattle.legal.proofs.laws.relay_journals.Goals as goal

pub returns : goal.returns
returns c = relay_journals
