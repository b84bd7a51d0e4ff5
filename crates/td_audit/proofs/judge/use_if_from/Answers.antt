use Rattle.td_audit.proofs.Words.{Datagram, ap, arith, cases_Bool, datagram, false, inl, inr, is_audited, one_if, same_datagram, sym, true, ◌∙◌, ◌≡◌}
use Rattle.td_audit.proofs.KeyLaws.{same_is}
use Rattle.td_audit.proofs.judge.use_if_from.Goals as goal

pub returns-then-not-is_audited : goal.returns-then-not-is_audited
returns-then-not-is_audited c = λ e e_fits from.
    let d = datagram c.args.src c.args.dst c.args.body.now in
    let s = c.args.settings.now in
    let not_from : is_audited s d.src ≡ false = sym c.is_audited.ensures ∙ c.if-not-is_audited.true in
    elim (cases_Bool (same_datagram e d)) [
      | inl same ↦ absurd (let other : is_audited s d.src ≡ true = ap (λ (x : Datagram). is_audited s x.src) (sym (same_is e d same)) ∙ from in cc)
      | inr differ ↦ omega (arith, ap one_if differ)
    ]
