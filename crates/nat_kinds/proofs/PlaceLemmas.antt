-- What stands at a port of the table.
use Rattle.nat_kinds.proofs.Words.{Bool, FIRST_PORT, List, None, Option, Outward, Some, ap, arith, cond, cond-false, false, get_or, in_place, le-ltb, length, ltb-false, nat_lt, place_at, refl, slice_get, slice_get-get_or, slice_get_past, slice_get_within, sym, true, ℕ, ◌+◌, ◌-◌, ◌<◌, ◌∙◌, ◌≡◌, ◌≤◌}

from_first : (places : List (Option Outward)) (i : ℕ) → place_at places (FIRST_PORT + i) ≡ in_place (slice_get places i)
from_first places i =
    let same : FIRST_PORT + i - FIRST_PORT ≡ i = omega arith in
    cond-false (nat_lt (FIRST_PORT + i) FIRST_PORT) None (in_place (slice_get places (FIRST_PORT + i - FIRST_PORT))) (le-ltb _ _ (omega arith)) ∙ ap (λ k. in_place (slice_get places k)) same

pub place_in : (places : List (Option Outward)) (i : ℕ) → i < length places → place_at places (FIRST_PORT + i) ≡ get_or places i None
place_in places i h = from_first places i ∙ ap in_place (slice_get-get_or places i None h)

pub place_past : (places : List (Option Outward)) (i : ℕ) → length places ≤ i → place_at places (FIRST_PORT + i) ≡ None
place_past places i h = from_first places i ∙ ap in_place (slice_get_past places i h)

-- where something stands there is a place
pub place_within : (places : List (Option Outward)) (port : ℕ) (e : Outward) → place_at places port ≡ Some e → (FIRST_PORT ≤ port) × (port < FIRST_PORT + length places)
place_within places port e h = by_case (nat_lt port FIRST_PORT) refl h
  where
    standing : (o : Option (Option Outward)) → in_place o ≡ Some e → (x : Option Outward) × (o ≡ Some x)
    standing None i = absurd (let g : Some e ≡ None = sym i in cc)
    standing (Some x) i = (x, refl)

    by_case : (b : Bool) → nat_lt port FIRST_PORT ≡ b → cond b None (in_place (slice_get places (port - FIRST_PORT))) ≡ Some e → (FIRST_PORT ≤ port) × (port < FIRST_PORT + length places)
    by_case true k i = absurd (let g : Some e ≡ None = sym i in cc)
    by_case false k i =
        let from : FIRST_PORT ≤ port = ltb-false _ _ k in
        let x = standing (slice_get places (port - FIRST_PORT)) i in
        let within : port - FIRST_PORT < length places = slice_get_within places (port - FIRST_PORT) x.0 x.1 in
        (from, omega arith)
