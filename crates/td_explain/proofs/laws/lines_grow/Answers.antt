use Rattle.td_explain.proofs.LawProofs.{lines_grow}
use Rattle.td_explain.proofs.laws.lines_grow.Goals as goal

pub returns : goal.returns
returns c = lines_grow
