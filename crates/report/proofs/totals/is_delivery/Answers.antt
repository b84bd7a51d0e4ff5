use Rattle.report.proofs.Words.{rules}
use Rattle.report.proofs.totals.is_delivery.Goals as goal

pub returns-in-Deliver : goal.returns-in-Deliver
returns-in-Deliver c = search rules
