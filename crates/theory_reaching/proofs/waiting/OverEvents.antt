-- The latest event of a history is over, so another one may begin; and which events are no advances.
use Rattle.theory_reaching.proofs.Words.{Bool, Delivers, Event, Full, GoesOn, Grown, IsOver, Lab, List, Verb, [], and_right, ap, false, false≢true, has_more, is_advance, not, refl, sym, true, ℕ, ◌&&◌, ◌∙◌, ◌∷◌, ◌≡◌}
use Rattle.theory_reaching.specs.Waiting.{is_over}
use Rattle.legal.specs.Kinds.{Hands}
use Rattle.events.specs.declared.event.Event.TheVariants as event

-- so it is where a record of another event follows than an advance
pub over_before : (H : List Full) (asked : Event) → GoesOn H asked → is_advance asked ≡ false → IsOver H
over_before [] asked goes other = tt
over_before (r ∷ H) asked goes other = by (is_advance r.asked) (has_more r.asked r.act) refl refl where
  by : (a b : Bool) → is_advance r.asked ≡ a → has_more r.asked r.act ≡ b → is_over r ≡ true
  by a false ea eb = ap (λ (z : Bool). not (is_advance r.asked && z)) eb ∙ ap not (and_right (is_advance r.asked) false refl)
  by false true ea eb = ap (λ (z : Bool). not (z && has_more r.asked r.act)) ea
  by true true ea eb = absurd (false≢true (sym other ∙ ap is_advance (goes eb) ∙ ea))

pub not_delivering : (H : List Full) (e : Event) (i : ℕ) → Delivers H e i → is_advance e ≡ false
not_delivering H (event.Advance ms) i d = absurd d
not_delivering H _ i d = refl

pub not_handing : (lab : Lab) (H : List Full) (e : Event) (v : Verb) (n : ℕ) (x : List ℕ) → Hands lab H e v n x → is_advance e ≡ false
not_handing lab H (event.Advance ms) v n x d = absurd d
not_handing lab H _ v n x d = refl

-- a history whose latest event is over
pub record IsWhole (lab : Lab) (H : List Full) : Type 0 where
  pub grown : Grown lab H
  pub over : IsOver H
