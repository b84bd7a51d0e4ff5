use Rattle.std.proofs.Common.{◌≡◌, ◌≤◌, ◌-◌, length, take}
use Rattle.std.specs.Io.KnownBytes.{Appends}
use Rattle.sink_lines.proofs.Written.{HandedTo}
use Rattle.sink_lines.proofs.lines.write_line.Given as goal

abbrev pub invariant-loop-at : goal.invariant-loop-at
invariant-loop-at g l = record {
  within : l.at ≤ length l.line;
  written : Appends (g.K.Sink.state l.fn.out).holds (g.K.Sink.state l.out).holds (take l.at l.line);
  handed : HandedTo l.line l.at (g.K.Sink.state l.fn.out).pieces (g.K.Sink.state l.out).pieces;
  same : (g.K.Sink.state l.out).faults ≡ (g.K.Sink.state l.fn.out).faults;
}

abbrev pub decreases-loop-at : goal.decreases-loop-at
decreases-loop-at g l = length l.initial.line - l.at
