use Rattle.report.proofs.Words.{arith}
use Rattle.report.proofs.LateByLate.{put_more}
use Rattle.report.proofs.fields.put_lates.Goals as goal

pub loop-len-preserved : goal.loop-len-preserved
loop-len-preserved c = record {
  text = put_more _ _ _ _ _ _ c.loop-len-test.true c.loop-len.invariant.text c.put_late.ensures.text;
  short = omega (arith, c.loop-len.invariant.short, c.put_late.ensures.short);
}
