use Rattle.state_writer.proofs.Words.{length}
use Rattle.state_writer.proofs.at_nats.+write_marks.Given as goal

abbrev pub decreases-write_marks : goal.decreases-write_marks
decreases-write_marks g l = length l.marks.now
