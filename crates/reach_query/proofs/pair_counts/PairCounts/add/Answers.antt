use Rattle.reach_query.proofs.Words.{arith, common_steps}
use Rattle.reach_query.proofs.pair_counts.PairCounts.add.Goals as goal

pub returns-in-Shut-clause-counted : goal.returns-in-Shut-clause-counted
returns-in-Shut-clause-counted c = grind (arith, common_steps)
