use Rattle.nat_kinds.proofs.Words.{NatState, subst, sym, ◌∙◌, ◌≤◌}
use Rattle.nat_kinds.proofs.StandsLemmas.{lets_in-stands}
use Rattle.nat_kinds.proofs.translator.Nat.inward.Goals as goal

pub returns : goal.returns
returns c =
    let l : c.self.inside.moment.0 ≤ c.args.now.0 = subst (λ (v : NatState). v.moment ≤ c.args.now.0) (sym c.self.view_is) c.requires.clock in
    rw (← c.self.view_is) (record { answer = λ h is. (rw c.deref.ensures.value at c.inside_at.ensures.value) ∙ lets_in-stands _ c.args.now.0 c.args.src c.args.port l h is })
