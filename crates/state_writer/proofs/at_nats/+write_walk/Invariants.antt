use Rattle.state_writer.proofs.Words.{length, ◌-◌}
use Rattle.state_writer.proofs.at_nats.+write_walk.Given as goal

abbrev pub decreases-write_walk : goal.decreases-write_walk
decreases-write_walk g l = length l.world.now.chain - l.place
