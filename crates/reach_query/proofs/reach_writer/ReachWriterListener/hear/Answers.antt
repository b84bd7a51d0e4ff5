use Rattle.reach_query.proofs.Words.{nothing_wrote}
use Rattle.reach_query.proofs.reach_writer.ReachWriterListener.hear.Goals as goal

pub returns-clause-written : goal.returns-clause-written
returns-clause-written g c = λ t H r kept news. nothing_wrote _
