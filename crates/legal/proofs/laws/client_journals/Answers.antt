use Rattle.legal.proofs.LawProofs.{client_journals}
use Rattle.legal.proofs.laws.client_journals.Goals as goal

pub returns : goal.returns
returns c = client_journals
