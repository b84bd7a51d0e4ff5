use Rattle.load_ends.proofs.Told.{Told}
use Rattle.load_ends.proofs.ends_table.EndsTable.write_packets.Given as goal

abbrev pub invariant-loop-place : goal.invariant-loop-place
invariant-loop-place g l = Told l.world l.keeper l.self.rows.items (g.K.Sink.state l.fn.out) (g.K.Sink.state l.out) l.counts l.place
