use Rattle.td_live.proofs.Words.{rules}
use Rattle.td_live.proofs.live_totals.LiveTotals.count.Goals as goal

pub returns-clause-counted : goal.returns-clause-counted
returns-clause-counted c = search rules

pub returns-clause-some : goal.returns-clause-some
returns-clause-some c = search rules
