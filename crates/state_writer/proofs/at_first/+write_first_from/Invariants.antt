use Rattle.state_writer.proofs.Words.{length, nodes, ◌-◌}
use Rattle.state_writer.proofs.at_first.+write_first_from.Given as goal

abbrev pub decreases-write_first_from : goal.decreases-write_first_from
decreases-write_first_from g l = length (nodes l.topology.now) - l.number
