use Rattle.theory_reaching.proofs.LawProofs.{words_are_kept}
use Rattle.theory_reaching.proofs.laws.words_are_kept.Goals as goal

pub returns : goal.returns
returns c = words_are_kept
