use Rattle.td_explain.proofs.Words.{rules}
use Rattle.td_explain.proofs.lines.put_other_line.Goals as goal

pub returns : goal.returns
returns c = search rules
