use Rattle.lab_nodes.proofs.Words.{ltb-false, sym, ◌∙◌}
use Rattle.lab_nodes.proofs.Quiet.{not_first}
use Rattle.lab_nodes.proofs.due.may_come_first.Goals as goal

pub returns-in-Some : goal.returns-in-Some
returns-in-Some c late f x is quiet = not_first f x c.args.until c.in-Some.one (sym c.in-Some.is ∙ is) (ltb-false _ _ late) quiet
