-- The line of counts that are those of the packets is the packets' line.
use Rattle.load_lines.proofs.Words.{Counts, EndCounts, List, Whereabouts, counts_text, packets_line, refl, ◌≡◌}

pub counted_line : (c : EndCounts) (ws : List Whereabouts) → Counts c ws → counts_text c ≡ packets_line ws
counted_line c ws counts = rw (counts.packets, counts.arrived, counts.waits, counts.held, counts.wire, counts.lost) refl
