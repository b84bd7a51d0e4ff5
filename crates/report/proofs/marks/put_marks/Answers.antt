use Rattle.report.proofs.Words.{arith}
use Rattle.report.proofs.MarkByMark.{put_more}
use Rattle.report.proofs.marks.put_marks.Goals as goal

pub loop-mark-preserved : goal.loop-mark-preserved
loop-mark-preserved c = record {
  text = put_more _ _ _ _ _ _ _ c.loop-mark-test.true c.loop-mark.invariant.text c.put_mark.ensures.text;
  short = omega (arith, c.loop-mark.invariant.short, c.put_mark.ensures.short);
}
