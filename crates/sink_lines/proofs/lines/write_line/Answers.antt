use Rattle.std.proofs.Common.{arith, subst, ℕ}
use Rattle.std.proofs.lemmas.Grind.{common_steps}
use Rattle.std.proofs.lemmas.Result.{err_from_is_err_and}
use Rattle.td_outside.specs.Causes.{Rose}
use Rattle.td_outside.specs.Sink.{SinkState}
use Rattle.sink_lines.proofs.Written.{Appends-step, one_handed, line_written, line_stopped}
use Rattle.sink_lines.proofs.lines.write_line.Goals as goal

pub loop-at-preserved : goal.loop-at-preserved
loop-at-preserved g c = record {
  within = grind (arith, common_steps);
  written = Appends-step _ _ _ c.loop-at.at c.in_ok-at.field-0 c.args.line.now c.loop-at.invariant.written c.in_ok-at.ensures.bytes;
  handed = one_handed c.args.line.now c.loop-at.at c.in_ok-at.field-0 _ _ _ c.loop-at.invariant.handed c.write.ensures.handed c.loop-at-test.true (c.in_ok-at.ensures.some (grind (arith, common_steps)));
  same = grind arith;
}

pub returns : goal.returns
returns g c = record {
  ok = line_written c.args.line.now c.loop-at.at _ _ c.loop-at.invariant.written c.loop-at.invariant.handed (omega (arith, c.loop-at.invariant.within, c.loop-at-test.false));
  err = tt;
  cause = record { later = omega (arith, c.loop-at.invariant.same); failed = tt; kept = c.loop-at.invariant.same };
}

pub returns-in_err-at : goal.returns-in_err-at
returns-in_err-at g c =
    let now : SinkState = g.K.Sink.state c.loop-at.out in
    let same = c.loop-at.invariant.same in
    let p = err_from_is_err_and c.from_residual.result c.from_residual.ensures.1 in
    rw p.1 (record {
      ok = tt;
      err = line_stopped c.args.line.now c.loop-at.at _ now _ c.loop-at.invariant.written c.in_err-at.ensures.bytes c.loop-at.invariant.handed c.write.ensures.handed c.loop-at-test.true;
      cause = record {
        later = omega (arith, same, c.in_err-at.ensures.cause.later);
        failed = subst (λ (n : ℕ). Rose n (g.K.Sink.state c.write.new.self).faults) same c.in_err-at.ensures.cause.failed;
        kept = tt;
      };
    })
