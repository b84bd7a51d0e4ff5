use Rattle.load_ends.proofs.Words.{Draws, Full, List, StandsFor, TellsEnds, length, loads, rows_from, ◌≡◌, ◌≤◌}
use Rattle.load_ends.proofs.ends_table.EndsTable.note_wire.Given as goal

abbrev pub invariant-entries : goal.invariant-entries
invariant-entries l = record {
  within : l.number ≤ length l.world.wire;
  rows : (d : Draws) (H : List Full) → StandsFor d l.world H → TellsEnds l.world.topology l.fn.self H → l.wire ≡ (loads l.world.topology H).wire
      → l.self.rows.items ≡ rows_from l.world.topology H l.number;
}

abbrev pub decreases-entries : goal.decreases-entries
decreases-entries l = l.number
