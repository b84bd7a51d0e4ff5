use Rattle.player.proofs.Words.{Writing-line, ap, totals_line}
use Rattle.player.proofs.totals_writer.TotalsWriterListener.end.Goals as goal

pub returns : goal.returns
returns g c = λ d H kept stands. Writing-line _ _ _ _ _ (ap totals_line kept.0) c.write_totals.ensures
