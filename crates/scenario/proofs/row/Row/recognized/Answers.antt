use Rattle.scenario.proofs.Words.{rules}
use Rattle.scenario.proofs.row.Row.recognized.Goals as goal

pub returns-in-None : goal.returns-in-None
returns-in-None g c = search rules
