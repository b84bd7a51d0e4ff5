use Rattle.td_base.proofs.Words.{rules}
use Rattle.td_base.proofs.SumLemmas.{front_summed}
use Rattle.td_base.proofs.halves.unfolded_sum.Goals as goal

pub returns-clause-sum : goal.returns-clause-sum
returns-clause-sum c = search rules

pub returns-clause-goes_on : goal.returns-clause-goes_on
returns-clause-goes_on c front sums = front_summed c.args.bytes.now sums (returns-clause-sum c)
