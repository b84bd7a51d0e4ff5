use Rattle.follow_writer.proofs.Words.{length}
use Rattle.follow_writer.proofs.follow_writer.+write_said.Given as goal

abbrev pub decreases-write_said : goal.decreases-write_said
decreases-write_said g l = length l.sayings.now
