use Rattle.theory_reaching.proofs.LawProofs.{stale_to_native_is_kept}
use Rattle.theory_reaching.proofs.laws.stale_to_native_is_kept.Goals as goal

pub returns : goal.returns
returns c = stale_to_native_is_kept
