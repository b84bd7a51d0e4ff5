use Rattle.qualify.proofs.Words.{rules}
use Rattle.qualify.proofs.round.Round.asks_again.Goals as goal

pub returns : goal.returns
returns c = search rules
