use Rattle.world.proofs.Words.{ComesOnto, Err, Made, Puts, Send, [], ap, err_from_is_err_and, made_outright, marked, source_at, source_or_loss, subst, ◌∙◌, ◌∷◌, ◌≡◌}
use Rattle.world.proofs.Outright.{From, one_of, made_as, none_outright, one_outright, stops_outright}
use Rattle.world.proofs.sender.put_outright.Goals as goal

pub loop-i-init : goal.loop-i-init
loop-i-init c = none_outright c.args.wire.now (record { own = source_at c.args.from.primary c.args.from.secondary; fails = c.args.fails }) c.args.step.now.sends c.args.marks.now c.requires.none

pub loop-i-preserved : goal.loop-i-preserved
loop-i-preserved c =
    let f : From = record { own = source_at c.args.from.primary c.args.from.secondary; fails = c.args.fails } in
    let x : Send = record { side = c.send-side.result.0; to = c.send-side.result.1; bytes = c.send-side.result.2.now } in
    let made : marked x (source_or_loss c.leave_unless-egress.result) ≡ one_of f c.loop-i.i x =
    ap (marked x) c.leave_unless-egress.ensures ∙ made_as c.is_failing-failing.result f.own x ∙ ap (λ b. made_outright b f.own x) c.is_failing-failing.ensures in
    one_outright c.args.wire.now f c.args.step.now.sends c.loop-i.i x c.send-side.ensures.place c.loop-i.wire c.send.new.self c.loop-i.marks c.send.new.marks c.loop-i.invariant
    (subst (λ (m : Made). ComesOnto c.loop-i.wire c.send.new.self c.loop-i.marks c.send.new.marks (m ∷ [])) made (c.in_ok-send.ensures.puts x.side))

pub returns-in_err-send-clause-puts : goal.returns-in_err-send-clause-puts
returns-in_err-send-clause-puts c =
    let p = err_from_is_err_and c.from_residual.result c.from_residual.ensures.1 in
    let f : From = record { own = source_at c.args.from.primary c.args.from.secondary; fails = c.args.fails } in
    let x : Send = record { side = c.send-side.result.0; to = c.send-side.result.1; bytes = c.send-side.result.2.now } in
    let made : marked x (source_or_loss c.leave_unless-egress.result) ≡ one_of f c.loop-i.i x =
    ap (marked x) c.leave_unless-egress.ensures ∙ made_as c.is_failing-failing.result f.own x ∙ ap (λ b. made_outright b f.own x) c.is_failing-failing.ensures in
    let why = c.in_err-send.field-0.0 in
    rw (p.1, p.2) (stops_outright c.args.wire.now f c.args.step.now.sends c.loop-i.i x c.send-side.ensures.place c.loop-i.wire c.send.new.self c.loop-i.marks c.send.new.marks why c.loop-i.invariant
    (subst (λ (m : Made). Puts c.loop-i.wire c.send.new.self c.loop-i.marks c.send.new.marks (m ∷ []) (Err why)) made (c.in_err-send.ensures.puts x.side)))
