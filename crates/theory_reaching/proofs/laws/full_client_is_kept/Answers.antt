use Rattle.theory_reaching.proofs.LawProofs.{full_client_is_kept}
use Rattle.theory_reaching.proofs.laws.full_client_is_kept.Goals as goal

pub returns : goal.returns
returns c = full_client_is_kept
