use Rattle.td_explain.proofs.Words.{IfSome, KeepsKnown, Known, Option, TakesFirst, Waits, ap, datagram, latest_like, latest_of, licensing_or, near_licensing, own_licensing, own_places, places, subst, sym, ℕ}
use Rattle.td_explain.proofs.WaitLaws.{taken_is, taken_keeps}
use Rattle.td_explain.proofs.known.Known.licensing.Goals as goal

pub returns-in_ok-licensing-in-Whole : goal.returns-in_ok-licensing-in-Whole
returns-in_ok-licensing-in-Whole c = λ rs before small keeps from.
    c.in_ok-licensing-in-Whole.ensures (places rs) small (subst (λ (k : Known). KeepsKnown c.args.settings.now k (places rs) (places rs)) c.in-Whole.is keeps) from

pub returns-in-Some : goal.returns-in-Some
returns-in-Some c = λ rs before small keeps from.
    let s = c.args.settings.now in
    let held = places rs in
    let d = datagram c.args.src c.args.dst c.args.body.now in
    let old : Waits = c.in-Clean.waits in
    let new = c.take.new.self in
    let by = c.in-Some.by in
    let waits = subst (λ (k : Known). KeepsKnown s k held held) c.in-Clean.is keeps in
    let takes : TakesFirst old new d by = subst (λ (o : Option ℕ). IfSome o (λ (p : ℕ). TakesFirst old new d p)) c.in-Some.is c.in_ok-by-in-Clean.ensures.taken in
    let fits = c.take.ensures.fits in
    let is = taken_is s old new held d by fits from waits takes in (
      sym (ap (λ (o : Option ℕ). licensing_or (own_licensing o (latest_of (own_places s d held))) (near_licensing d.body (latest_like s d held))) is),
      taken_keeps s old new held d by fits from waits takes,
    )

pub returns-in_ok-licensing-in-None : goal.returns-in_ok-licensing-in-None
returns-in_ok-licensing-in-None c = λ rs before small keeps from. c.in_ok-licensing-in-None.ensures (places rs) small (c.in_ok-past-in-None.ensures rs before) from
