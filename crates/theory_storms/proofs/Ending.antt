-- Deliveries end, since each takes away more than it brings.
use Rattle.theory_storms.proofs.Words.{AllByRecursion, AreNew, Begun, DeliversNew, EachSettlingEnds, EachStormEnds, Event, FewFollow, Full, GoesOnSettling, Grown, HistoriesHaveNoStorm, IsEvent, Lab, List, ScenariosHaveNoStorm, [], arith, burden, earlier, eased_burden, grown, lab_of, length, subst, ℕ, ◌++◌, ◌+◌, ◌<◌, ◌∷◌, ◌≤◌}
use Rattle.theory_storms.proofs.Eases.{each_eases, each_lightens}
use Rattle.theory_storms.proofs.Settles.{settle_delivers_new}
use Rattle.theory_storms.proofs.Weighed.{burden_is_bounded}

-- what falls with each of some deliveries is no less than they are many
falling : (burden : List Full → ℕ) (lab : Lab) (H later : List Full)
    → ((G : List Full) (r : Full) → Grown lab (r ∷ G) → DeliversNew G r → burden (r ∷ G) < burden G)
    → Grown lab (later ++ H) → AreNew H later → length later + burden (later ++ H) ≤ burden H
falling burden lab H [] falls g new = omega arith
falling burden lab H (r ∷ later) falls g new =
    let rest = falling burden lab H later falls g.1 new.1 in
    let step = falls (later ++ H) r g new.0 in
    omega (arith, rest, step)

pub storms_end : EachStormEnds
storms_end lab H later is g new =
    let fell = falling (burden lab.topology) lab H later (λ G r grown one. each_lightens lab G r is grown one) g new in
    let bound = burden_is_bounded lab.topology H in
    omega (arith, fell, bound)

pub few_follow : FewFollow
few_follow lab H later is g new =
    let fell = falling (eased_burden lab.topology) lab H later (λ G r grown one. each_eases 3 lab G r (omega arith) is grown one) g new in
    omega (arith, fell)

-- THE EVENT THAT DELIVERS ALL

pub are_new : (lab : Lab) (H later : List Full) → Grown lab (later ++ H) → AllByRecursion GoesOnSettling later → AreNew H later
are_new lab H [] g on = tt
are_new lab H (r ∷ later) g on = (settle_delivers_new lab (later ++ H) r g on.0, are_new lab H later g.1 on.1)

pub settling_ends : EachSettlingEnds
settling_ends lab H later is g on = storms_end lab H later is g (are_new lab H later g on)

-- AT EACH RECORD

pub histories : HistoriesHaveNoStorm
histories lab H is g rest later before split =
    let there : Grown lab (later ++ before) = earlier lab rest (later ++ before) (subst (Grown lab) split g) in
    record { deliveries = storms_end lab before later is there; settling = settling_ends lab before later is there }

pub scenarios : ScenariosHaveNoStorm
scenarios s chain H is events begun = histories (lab_of s chain) H is (grown (lab_of s chain) s.events H events begun)
