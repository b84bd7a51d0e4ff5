use Rattle.state_writer.proofs.Words.{wrote}
use Rattle.state_writer.proofs.state_writer.StateWriterListener.hear.Goals as goal

pub returns-clause-written : goal.returns-clause-written
returns-clause-written g c = λ t H r kept news. wrote _ _ _ _ (c.in_ok-write_record.ensures t H r news kept.1)
