use Rattle.td_live.proofs.Words.{Advances, Journal, Settings, [], ap, carries_nothing, client_due, false, is_due, subst, ticked, true, ◌∙◌, ◌≡◌}
use Rattle.td_live.proofs.Attempts.{few_lost, fails_by}
use Rattle.td_live.proofs.Entries.{Point, ClientCall, goes_nowhere, goes_on, not_due, due_now}
use Rattle.td_live.proofs.turn.do_due.Goals as goal

pub returns-then-not-is_due-clause-goes : goal.returns-then-not-is_due-clause-goes
returns-then-not-is_due-clause-goes g c =
    λ client j at.
    let told = (g.L.Link.state c.args.link.now).told in
    let quiet : c.is_due.result ≡ false = c.if-not-is_due.true in
    subst (λ (k : Journal). Advances client j k c.args.client.now told told [] c.args.totals.now c.args.totals.now)
    (not_due client j c.args.now.0 c.is_due.result quiet (c.is_due.ensures.due j at.stands ∙ ap (λ (s : Settings). is_due c.args.now.0 (client_due s j c.args.now.0)) at.settings))
    (goes_nowhere client (record { client = c.args.client.now; journal = j; told = told; totals = c.args.totals.now }) told [] at (carries_nothing told))

pub count-requires-clause-sends : goal.count-requires-clause-sends
count-requires-clause-sends g c =
    let once = rw c.in-Some.is at c.tick.ensures.turn in
    few_lost c.tick.new.step.sends c.in-Some.failed once.sends.answers once.sends.each once.sends.bits

pub returns-in-Some-clause-goes : goal.returns-in-Some-clause-goes
returns-in-Some-clause-goes g c =
    λ client j at.
    let once = rw c.in-Some.is at c.tick.ensures.turn in
    let owed : c.is_due.result ≡ true = c.if-not-is_due.false in
    let from : Point = record { client = c.args.client.now; journal = j; told = (g.L.Link.state c.args.link.now).told; totals = c.args.totals.now } in
    let call : ClientCall client from [] = record {
      now = c.args.now.0;
      input = ticked;
      step = c.tick.new.step;
      client = c.tick.new.e;
      told = (g.L.Link.state c.tick.new.link).told;
      totals = c.count.new.self;
      failed = c.in-Some.failed;
      answers = once.sends.answers;
      at = at;
      does = once.ticked;
      each = once.sends.each;
      carried = once.sends.told;
      bits = once.sends.bits;
      counts = c.count.ensures.counted;
    } in
    subst (λ (k : Journal). Advances client j k call.client from.told call.told [] from.totals call.totals)
    (due_now client j c.args.now.0 c.is_due.result owed (c.is_due.ensures.due j at.stands ∙ ap (λ (s : Settings). is_due c.args.now.0 (client_due s j c.args.now.0)) at.settings))
    (goes_on client from [] call)

pub returns-in-Some-clause-sends : goal.returns-in-Some-clause-sends
returns-in-Some-clause-sends g c =
    let faults = rw c.in-Some.is at c.tick.ensures.sends in
    fails_by _ _ c.in-Some.failed c.args.totals.now c.count.new.self c.tick.new.step.sends faults c.count.ensures.counted
