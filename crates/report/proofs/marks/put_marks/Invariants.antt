use Rattle.report.proofs.Words.{MARK_LEN, length, marks_text, take, ◌*◌, ◌++◌, ◌+◌, ◌≡◌, ◌≤◌}
use Rattle.report.proofs.marks.put_marks.Given as goal

abbrev pub invariant-loop-mark : goal.invariant-loop-mark
invariant-loop-mark l = record {
  text : l.out ≡ l.fn.out ++ marks_text l.t (take l.mark-index l.marks);
  short : length l.out ≤ length l.fn.out + MARK_LEN * l.mark-index;
}
