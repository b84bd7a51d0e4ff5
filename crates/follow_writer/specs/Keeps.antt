-- What the writer of where packets went keeps.
use Rattle.std.specs.Prelude.{◌≡◌, List, length}
use Rattle.topology.specs.Rows.{TopologyState}
use Rattle.history.specs.Full.{Full}
use Rattle.load_keeper.specs.Keeper.{StandsForLoads}
use Rattle.load_ends.specs.Table.{TellsEnds}
use Rattle.follow_writer.specs.declared.follow_writer.FollowWriter.{FollowWriter}

-- The writer's topology is this; its keeper, its table and its count are those of these records.
pub record FollowsPackets (w : FollowWriter) (t : TopologyState) (H : List Full) : Type 0 where
  pub topology : w.topology.now ≡ t
  pub records : w.records ≡ length H
  pub keeper : StandsForLoads t w.keeper H
  pub ends : TellsEnds t w.ends H
