use Rattle.td_base.proofs.Words.{rules}
use Rattle.td_base.proofs.refusals.BadText.before.Goals as goal

pub returns : goal.returns
returns c = search rules
