use Rattle.report.proofs.Words.{LATE_LEN, late_text, length, take, ◌*◌, ◌++◌, ◌+◌, ◌≡◌, ◌≤◌}
use Rattle.report.proofs.fields.put_lates.Given as goal

abbrev pub invariant-loop-len : goal.invariant-loop-len
invariant-loop-len l = record {
  text : l.out ≡ l.fn.out ++ late_text (take l.len-index l.lens);
  short : length l.out ≤ length l.fn.out + LATE_LEN * l.len-index;
}
