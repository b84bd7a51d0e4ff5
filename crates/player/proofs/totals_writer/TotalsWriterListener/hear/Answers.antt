use Rattle.player.proofs.Words.{nothing_wrote}
use Rattle.player.proofs.SmallSums.{sums_small}
use Rattle.player.proofs.totals_writer.TotalsWriterListener.hear.Goals as goal

pub add-requires : goal.add-requires
add-requires g c =
    let can = c.requires in
    sums_small _ can.history can.last can.kept.0 can.kept.1 can.few can.news.fits

pub returns-clause-written : goal.returns-clause-written
returns-clause-written g c = λ t H r kept news. nothing_wrote _
