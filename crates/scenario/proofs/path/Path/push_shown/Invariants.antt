use Rattle.scenario.proofs.Words.{drop, length, map, shown_byte, ◌++◌, ◌+◌, ◌≡◌}
use Rattle.scenario.proofs.path.Path.push_shown.Given as goal

abbrev pub invariant-loop-byte : goal.invariant-loop-byte
invariant-loop-byte l = record {
  text : l.self ++ map shown_byte (drop l.byte-index l.bytes) ≡ l.initial.self ++ map shown_byte l.bytes;
  count : length l.self ≡ length l.initial.self + l.byte-index;
}
