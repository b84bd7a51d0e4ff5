use Rattle.theory_reaching.proofs.LawProofs.{barred_to_native_is_kept}
use Rattle.theory_reaching.proofs.laws.barred_to_native_is_kept.Goals as goal

pub returns : goal.returns
returns c = barred_to_native_is_kept
