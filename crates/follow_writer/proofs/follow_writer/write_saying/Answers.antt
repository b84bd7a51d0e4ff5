use Rattle.follow_writer.proofs.Words.{Writing-line, ◌∙◌}
use Rattle.follow_writer.proofs.follow_writer.write_saying.Goals as goal

pub returns : goal.returns
returns g c = λ r is. Writing-line _ _ _ _ _ (c.as_slice.ensures.value ∙ c.said_line.ensures r is) c.write_line.ensures
