use Rattle.theory_reaching.proofs.LawProofs.{away_brings_nothing}
use Rattle.theory_reaching.proofs.unreached.away_brings_nothing.Goals as goal

pub returns : goal.returns
returns c = away_brings_nothing
