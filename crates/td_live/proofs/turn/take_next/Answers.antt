use Rattle.td_live.proofs.Words.{Err, Ok, PumpFault, Pumped, Result, SendFaults, ap, failed_of, subst, ◌∙◌}
use Rattle.td_live.proofs.Attempts.{few_lost, fails_by}
use Rattle.td_live.proofs.Entries.{Point}
use Rattle.td_live.proofs.Turned.{Pump, Takes, took, took_goes, idle_goes, broke_goes, starves_never}
use Rattle.td_live.proofs.turn.take_next.Goals as goal

pub count-requires-clause-sends : goal.count-requires-clause-sends
count-requires-clause-sends g c =
    let some = c.requires.asking.somewhere in
    let from : Point = record { client = c.args.client.now; journal = some.journal; told = (g.L.Link.state c.args.link.now).told; totals = c.args.totals.now }
    in
    let pump : Pump from = record {
      now = c.args.now.0;
      client = c.pump.new.e;
      told = (g.L.Link.state c.pump.new.link).told;
      before = c.args.step.now;
      step = c.pump.new.step;
      answer = c.pump.result;
      turn = c.pump.ensures.turn;
      left = c.pump.ensures.left;
    } in
    let takes : Takes from pump = record {
      from = c.in-Ok-Took.field-0-0;
      len = c.in-Ok-Took.field-0-1;
      failed = c.in-Ok-Took.failed;
      is = c.in-Ok-Took.is ∙ ap (λ (a : Pumped). Ok a) c.in-Ok-Took.field-0-is;
    } in
    let t = took from pump takes in
    few_lost c.pump.new.step.sends c.in-Ok-Took.failed t.answers t.each t.bits

pub unreachable-requires : goal.unreachable-requires
unreachable-requires g c =
    let some = c.requires.asking.somewhere in
    let from : Point = record { client = c.args.client.now; journal = some.journal; told = (g.L.Link.state c.args.link.now).told; totals = c.args.totals.now }
    in
    let pump : Pump from = record {
      now = c.args.now.0;
      client = c.pump.new.e;
      told = (g.L.Link.state c.pump.new.link).told;
      before = c.args.step.now;
      step = c.pump.new.step;
      answer = c.pump.result;
      turn = c.pump.ensures.turn;
      left = c.pump.ensures.left;
    } in
    starves_never from pump (c.in-Err-NoMemory.is ∙ ap (λ (f : PumpFault). Err f) c.in-Err-NoMemory.field-0-is)
    c.requires.asking

pub returns-in-Ok-Took-clause-goes : goal.returns-in-Ok-Took-clause-goes
returns-in-Ok-Took-clause-goes g c =
    λ client j at.
    let from : Point = record { client = c.args.client.now; journal = j; told = (g.L.Link.state c.args.link.now).told; totals = c.args.totals.now } in
    let pump : Pump from = record {
      now = c.args.now.0;
      client = c.pump.new.e;
      told = (g.L.Link.state c.pump.new.link).told;
      before = c.args.step.now;
      step = c.pump.new.step;
      answer = c.pump.result;
      turn = c.pump.ensures.turn;
      left = c.pump.ensures.left;
    } in
    let takes : Takes from pump = record {
      from = c.in-Ok-Took.field-0-0;
      len = c.in-Ok-Took.field-0-1;
      failed = c.in-Ok-Took.failed;
      is = c.in-Ok-Took.is ∙ ap (λ (a : Pumped). Ok a) c.in-Ok-Took.field-0-is;
    } in
    took_goes client from pump takes c.count.new.self at c.count.ensures.counted

pub returns-in-Ok-Took-clause-sends : goal.returns-in-Ok-Took-clause-sends
returns-in-Ok-Took-clause-sends g c =
    let whole = c.in-Ok-Took.is ∙ ap (λ (a : Pumped). Ok a) c.in-Ok-Took.field-0-is in
    let faults = subst (λ (r : Result Pumped PumpFault). SendFaults (g.L.Link.state c.args.link.now).send_faults (g.L.Link.state c.pump.new.link).send_faults (failed_of r)) whole c.pump.ensures.sends in
    fails_by _ _ c.in-Ok-Took.failed c.args.totals.now c.count.new.self c.pump.new.step.sends faults c.count.ensures.counted

pub returns-in-Ok-Idle-clause-goes : goal.returns-in-Ok-Idle-clause-goes
returns-in-Ok-Idle-clause-goes g c =
    λ client j at.
    let from : Point = record { client = c.args.client.now; journal = j; told = (g.L.Link.state c.args.link.now).told; totals = c.args.totals.now } in
    let pump : Pump from = record {
      now = c.args.now.0;
      client = c.pump.new.e;
      told = (g.L.Link.state c.pump.new.link).told;
      before = c.args.step.now;
      step = c.pump.new.step;
      answer = c.pump.result;
      turn = c.pump.ensures.turn;
      left = c.pump.ensures.left;
    } in
    idle_goes client from pump (c.in-Ok-Idle.is ∙ ap (λ (a : Pumped). Ok a) c.in-Ok-Idle.field-0-is) at

pub returns-in-Err-Receive-clause-broke : goal.returns-in-Err-Receive-clause-broke
returns-in-Err-Receive-clause-broke g c =
    λ client j at.
    let from : Point = record { client = c.args.client.now; journal = j; told = (g.L.Link.state c.args.link.now).told; totals = c.args.totals.now } in
    let pump : Pump from = record {
      now = c.args.now.0;
      client = c.pump.new.e;
      told = (g.L.Link.state c.pump.new.link).told;
      before = c.args.step.now;
      step = c.pump.new.step;
      answer = c.pump.result;
      turn = c.pump.ensures.turn;
      left = c.pump.ensures.left;
    } in
    broke_goes client from pump (c.in-Err-Receive.is ∙ ap (λ (f : PumpFault). Err f) c.in-Err-Receive.field-0-is) at
