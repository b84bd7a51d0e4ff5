use Rattle.nat_kinds.proofs.Words.{refl}
use Rattle.nat_kinds.proofs.StandsLemmas.{stands_forget}
use Rattle.nat_kinds.proofs.translator.Nat.forget.Goals as goal

pub returns-clause-stands : goal.returns-clause-stands
returns-clause-stands c = rw (← c.self.view_is) (stands_forget _ _ c.args.inside (record { moment = refl; settings = refl; places = c.forget.ensures.forgets; asked = record { each = c.forget.ensures.asked; once = c.forget.ensures.once } }))
