use Rattle.theory_reaching.proofs.LawProofs.{barred_client_is_kept}
use Rattle.theory_reaching.proofs.laws.barred_client_is_kept.Goals as goal

pub returns : goal.returns
returns c = barred_client_is_kept
