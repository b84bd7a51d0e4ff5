use Rattle.theory_reaching.proofs.LawProofs.{stale_client_is_kept}
use Rattle.theory_reaching.proofs.laws.stale_client_is_kept.Goals as goal

pub returns : goal.returns
returns c = stale_client_is_kept
