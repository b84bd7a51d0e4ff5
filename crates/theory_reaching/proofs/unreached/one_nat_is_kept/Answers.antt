use Rattle.theory_reaching.proofs.LawProofs.{one_nat_is_kept}
use Rattle.theory_reaching.proofs.unreached.one_nat_is_kept.Goals as goal

pub returns : goal.returns
returns c = one_nat_is_kept
