-- A record of a `settle` that goes on delivers an entry for the first time.
use Rattle.theory_storms.proofs.Words.{Act, Bool, Delivers, DeliversNew, Event, Full, IsAskedFor, Item, List, None, Option, SettleDeliversNew, Some, [], ap, arith, asked_for, cond, delivers, false, false≢true, first_open, first_undelivered, has_more, inl, inr, is_delivering, is_some, length, others, refl, slice_get, subst, suc, sym, true, unwrap_or, was_delivered, wire, zero, ℕ, ◌+◌, ◌<◌, ◌∙◌, ◌∷◌, ◌≡◌}
use Rattle.events.specs.declared.event.Event.TheVariants as event
use Rattle.history.specs.declared.act.Act.TheVariants as act

-- the first that wasn't delivered is one of those that are there
record IsOpen (H : List Full) (n k : ℕ) : Type 0 where
  within : n < k
  never : was_delivered n H ≡ false

open_is : (H : List Full) (i n : ℕ) (xs : List Item) → first_open H i xs ≡ Some n → IsOpen H n (i + length xs)
open_is H i n [] e = absurd (false≢true (ap (λ (o : Option ℕ). is_some o) e))
open_is H i n (x ∷ xs) e = by (was_delivered i H) refl e (open_is H (i + 1) n xs) where
  by : (b : Bool) → was_delivered i H ≡ b → cond b (first_open H (i + 1) xs) (Some i) ≡ Some n
      → (first_open H (i + 1) xs ≡ Some n → IsOpen H n (i + 1 + length xs)) → IsOpen H n (i + suc (length xs))
  by true was f ih =
      let rest = ih f in
      let within = rest.within in
      record { within = omega (arith, within); never = rest.never }
  by false was f ih =
      let same : i ≡ n = ap (λ (o : Option ℕ). unwrap_or o i) f in
      record { within = omega (arith, same); never = subst (λ (k : ℕ). was_delivered k H ≡ false) same was }

absent_there : (xs : List Item) (n : ℕ) → n < length xs → slice_get xs n ≡ None → ⊥
absent_there [] n less e = omega (arith, less)
absent_there (x ∷ xs) zero less e = false≢true (sym (ap (λ (o : Option Item). is_some o) e))
absent_there (x ∷ xs) (suc n) less e = absent_there xs n (omega (arith, less)) e

open_of : (H : List Full) (r : Full) (number : ℕ) → r.asked ≡ event.Settle → Delivers H r.asked number → IsOpen H number (length (wire H))
open_of H r number asked asks =
    let first : first_undelivered H ≡ Some number = subst (λ (e : Event). Delivers H e number) asked asks in
    let is = open_is H 0 number (wire H) first in
    let within = is.within in
    record { within = omega (arith, within); never = is.never }

-- no other act of a settle has further records
ends : (w : Act) → is_delivering w ≡ false → has_more event.Settle w ≡ true → ⊥
ends (act.Deliver number) none more = false≢true (sym none)
ends _ none more = false≢true more

module _ (H : List Full) (r : Full) (asked : r.asked ≡ event.Settle) (more : has_more r.asked r.act ≡ true) where
  by_act : IsAskedFor H r → DeliversNew H r
  by_act (delivers number is asks (inl told)) = record { number = number; delivered = told; new = (open_of H r number asked asks).never }
  by_act (delivers number is asks (inr absent)) = absurd (absent_there (wire H) number (open_of H r number asked asks).within absent.0)
  by_act (others none told) = absurd (ends r.act none (ap (λ (e : Event). has_more e r.act) (sym asked) ∙ more))

pub settle_delivers_new : SettleDeliversNew
settle_delivers_new lab H r g on = by_act H r on.asked on.more (asked_for lab H r g.0)
