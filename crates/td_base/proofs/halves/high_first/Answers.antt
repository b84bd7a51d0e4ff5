use Rattle.td_base.proofs.Folding.{other_order}
use Rattle.td_base.proofs.halves.high_first.Goals as goal

pub returns : goal.returns
returns c = other_order c.args.sum
