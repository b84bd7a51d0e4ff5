use Rattle.player.proofs.Words.{length, ◌-◌, ◌≤◌}
use Rattle.player.proofs.EntryRecords.{Recorded}
use Rattle.player.proofs.capture_writer.write_entries.Given as goal

abbrev pub invariant-entries : goal.invariant-entries
invariant-entries g l = record {
  recorded : Recorded l.moment.0 l.world.wire l.first l.number (g.K.Sink.state l.fn.out) (g.K.Sink.state l.out);
  within : l.number ≤ length l.world.wire;
}

abbrev pub decreases-entries : goal.decreases-entries
decreases-entries g l = l.end - l.number
