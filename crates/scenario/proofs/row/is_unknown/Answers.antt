use Rattle.scenario.proofs.Words.{ap, not, ◌∙◌}
use Rattle.scenario.proofs.UnknownKeys.{any_text}
use Rattle.scenario.proofs.row.is_unknown.Goals as goal

pub returns : goal.returns
returns c = ap not (c.is_one_of.ensures ∙ any_text c.args.key.now c.args.known.now)
