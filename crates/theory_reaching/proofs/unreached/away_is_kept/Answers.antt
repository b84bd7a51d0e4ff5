use Rattle.theory_reaching.proofs.LawProofs.{away_is_kept}
use Rattle.theory_reaching.proofs.unreached.away_is_kept.Goals as goal

pub returns : goal.returns
returns c = away_is_kept
