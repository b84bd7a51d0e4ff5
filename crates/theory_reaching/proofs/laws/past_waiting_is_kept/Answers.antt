use Rattle.theory_reaching.proofs.LawProofs.{past_waiting_is_kept}
use Rattle.theory_reaching.proofs.laws.past_waiting_is_kept.Goals as goal

pub returns : goal.returns
returns c = past_waiting_is_kept
