use Rattle.theory_reaching.proofs.LawProofs.{client_kept_back}
use Rattle.theory_reaching.proofs.laws.client_kept_back.Goals as goal

pub returns : goal.returns
returns c = client_kept_back
