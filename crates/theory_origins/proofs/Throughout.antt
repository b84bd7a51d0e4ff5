-- All of it, at each record.
use Rattle.theory_origins.proofs.Words.{Begun, Bool, Event, Full, Grown, HistoriesHaveOrigins, HonestForScenarios, HonestScenarios, Lab, List, Option, ScenariosHaveOrigins, Some, [], and_from, and_parts, ap, brought, earlier, false≢true, history_is_grown, is_honest_event, is_honest_event_for, is_some, lab_of, list_all, place, refl, slice_get, subst, suc, true, unwrap_or, zero, ℕ, ◌∷◌, ◌≡◌}
use Rattle.theory_origins.proofs.Brought.{each_is_brought, each_late_is_foreign}
use Rattle.theory_origins.proofs.BroughtBy.{each_is_brought_by}
use Rattle.theory_origins.proofs.FromOutside.{each_has_outside_origin}
use Rattle.theory_origins.proofs.Live.{each_is_live}
use Rattle.theory_origins.proofs.PassedOn.{each_is_passed_on}
use Rattle.theory_origins.proofs.Whence.{each_has_origin}

pub histories : HistoriesHaveOrigins
histories lab H is g later r before split =
    let there : Grown lab (r ∷ before) = earlier lab later (r ∷ before) (subst (Grown lab) split g) in
    record {
      brought = λ n c x o. each_is_brought lab before r n c x there o;
      brought_by = λ n c x o. each_is_brought_by lab before r n c x there o;
      late = λ n c node client. each_late_is_foreign lab before r n c there node client;
      origin = λ n c x k o teredo told. each_has_origin lab before r n c x is there o teredo k told;
      outside = λ n c x o foreign. each_has_outside_origin lab before r n c x is there o foreign;
      passed_on = λ k x comes teredo. each_is_passed_on lab before r k x is there comes teredo;
      live = λ n c own honest node client address. each_is_live lab before r n c own is there honest node client address;
    }

pub scenarios : ScenariosHaveOrigins
scenarios s chain H is events begun = histories (lab_of s chain) H is (history_is_grown (lab_of s chain) s.events H events begun)

one_of : (p : Event → Bool) (es : List Event) (k : ℕ) (e : Event) → list_all p es ≡ true → slice_get es k ≡ Some e → p e ≡ true
one_of p [] k e all at = absurd (false≢true (ap (λ (o : Option Event). is_some o) at))
one_of p (x ∷ es) zero e all at = subst (λ (z : Event). p z ≡ true) (ap (λ (o : Option Event). unwrap_or o x) at) (and_parts (p x) (list_all p es) all).0
one_of p (x ∷ es) (suc k) e all at = one_of p es k e (and_parts (p x) (list_all p es) all).1 at

-- what holds of each event of a scenario holds of each that was played
honest : (p : Event → Bool) (lab : Lab) (es : List Event) (H : List Full) → list_all p es ≡ true → Begun lab es H
    → list_all (λ (r : Full). p r.asked) H ≡ true
honest p lab es [] all begun = refl
honest p lab es (r ∷ H) all begun =
    and_from (p r.asked) (list_all (λ (q : Full). p q.asked) H)
    (one_of p es (place H) r.asked all (brought lab es H r begun.0).asked) (honest p lab es H all begun.1)

pub honest_scenarios : HonestScenarios
honest_scenarios s chain H all begun = honest (is_honest_event s.topology) (lab_of s chain) s.events H all begun

pub honest_for_scenarios : HonestForScenarios
honest_for_scenarios s chain H c all begun = honest (is_honest_event_for s.topology c) (lab_of s chain) s.events H all begun
