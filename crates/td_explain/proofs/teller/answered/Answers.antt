use Rattle.td_explain.proofs.Words.{Answered, Bool, Licensing, None, Option, Some, [], answered_after, ap, cond, datagram, false, is_audited, places, sym, true, ◌++◌, ◌∙◌, ◌∷◌, ◌≡◌}
use Rattle.td_explain.proofs.CameLaws.{other_came}
use Rattle.td_explain.proofs.TellLaws.{recount}
use Rattle.td_explain.proofs.teller.answered.Goals as goal

pub returns-then-not-is_audited : goal.returns-then-not-is_audited
returns-then-not-is_audited c = λ rs before small keeps.
    let held = places rs in
    let s = c.args.settings.now in
    let d = datagram c.args.src c.args.dst c.args.body.now in
    let other : is_audited s d.src ≡ false = sym c.is_audited.ensures ∙ c.if-not-is_audited.true in
    let none : Option Answered = None in (
      sym (ap (λ (b : Bool). cond b (Some (answered_after s held d)) none) other),
      recount s c.args.known.now held (held ++ Some d ∷ []) held (other_came s held d other) keeps,
    )

pub returns : goal.returns
returns c = λ rs before small keeps.
    let s = c.args.settings.now in
    let held = places rs in
    let d = datagram c.args.src c.args.dst c.args.body.now in
    let from : is_audited s d.src ≡ true = sym c.is_audited.ensures ∙ c.if-not-is_audited.false in
    let found = c.in_ok-licensing.ensures rs before small keeps from in
    let make : Licensing → Option Answered = λ x. Some (record { dst = d.dst; licensing = x }) in
    let none : Option Answered = None in
    (ap make found.0 ∙ sym (ap (λ (b : Bool). cond b (Some (answered_after s held d)) none) from), found.1)
