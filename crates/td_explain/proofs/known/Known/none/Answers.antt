use Rattle.td_explain.proofs.WaitLaws.{none_waits}
use Rattle.td_explain.proofs.known.Known.none.Goals as goal

pub returns : goal.returns
returns c = λ s. none_waits s c.none.result c.none.ensures
