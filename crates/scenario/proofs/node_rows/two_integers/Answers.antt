use Rattle.scenario.proofs.Words.{arith, sym}
use Rattle.scenario.proofs.TableLemmas.{fewer_than_two, more_than_two}
use Rattle.scenario.proofs.node_rows.two_integers.Goals as goal

pub returns-in_default : goal.returns-in_default
returns-in_default c = sym (fewer_than_two c.args.values.now (omega (arith, c.in_default.len_below)))

pub returns-in_default-2 : goal.returns-in_default-2
returns-in_default-2 c = sym (more_than_two c.args.values.now (omega (arith, c.in_default.len_at_least)))
