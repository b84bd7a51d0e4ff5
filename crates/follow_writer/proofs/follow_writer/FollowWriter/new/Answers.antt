use Rattle.follow_writer.proofs.Words.{refl}
use Rattle.follow_writer.proofs.follow_writer.FollowWriter.new.Goals as goal

pub returns : goal.returns
returns c = record { topology = refl; records = refl; keeper = c.in_ok-new.ensures; ends = c.new-2.ensures c.args.topology.now }
