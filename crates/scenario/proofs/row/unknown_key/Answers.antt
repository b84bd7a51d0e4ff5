use Rattle.scenario.proofs.Words.{map}
use Rattle.scenario.proofs.UnknownKeys.{least_unknown}
use Rattle.scenario.proofs.row.unknown_key.Goals as goal

pub returns : goal.returns
returns c = least_unknown (map (λ one. one.now) c.args.known.now) c.first_unknown.result c.args.table.now.entries c.first_unknown.ensures.ordered c.first_unknown.ensures.first
