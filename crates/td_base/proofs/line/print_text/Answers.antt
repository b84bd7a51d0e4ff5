use Rattle.td_base.proofs.Words.{arith, common_steps}
use Rattle.td_base.proofs.line.print_text.Goals as goal

pub returns-then-text-out : goal.returns-then-text-out
returns-then-text-out c = grind (arith, common_steps)
