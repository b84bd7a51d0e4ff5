use Rattle.td_ipv4.proofs.Words.{rules}
use Rattle.td_ipv4.proofs.sums.told.Goals as goal

pub returns-then-sum-eq-NO_SUM : goal.returns-then-sum-eq-NO_SUM
returns-then-sum-eq-NO_SUM c = search rules
