use Rattle.theory_settled.proofs.LawProofs.{client_is_there}
use Rattle.theory_settled.proofs.laws.client_is_there.Goals as goal

pub returns : goal.returns
returns c = client_is_there
