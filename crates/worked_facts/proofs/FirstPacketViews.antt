-- What is seen of a first packet and of the schedule after it; and how a schedule breaks the conclusion.
use Rattle.worked_facts.proofs.Words.{Bool, Fate, Full, GetsThrough, HasArrived, Ip6, IsComplete, List, Option, Some, [], ap, arith, cond, drop, false, false≢true, inl, inr, is_fault, is_listed, is_some, journal, length, list_any, map, mentions, nat_tests, now, option_map, refl, slice_get, subst, suc, sym, take, true, unwrap_or, was_delivered, wire, zero, ℕ, ◌++◌, ◌+◌, ◌-◌, ◌<◌, ◌==◌, ◌∙◌, ◌∷◌, ◌≡◌, ◌≤◌}

-- the numbers from i on, so many, that no record of these delivered
abbrev pub left_from : List Full → ℕ → ℕ → List ℕ
left_from later i zero = []
left_from later i (suc n) = cond (was_delivered i later) (left_from later (i + 1) n) (i ∷ left_from later (i + 1) n)

-- how many bytes each record handed over
abbrev pub sizes : List Full → List (Option ℕ)
sizes later = map (λ (q : Full). option_map (λ (x : List ℕ). length x) q.handed) later

-- the records after r: what they delivered, what of the wire is left, whether a send failed, their fates, what they handed
-- over; the latest first. And whether either client listed the other before
pub record Carriage : Type 0 where
  pub delivered : List (Option ℕ)
  pub left : List ℕ
  pub faults : Bool
  pub fates : List Fate
  pub handed : List (Option ℕ)
  pub listed : Bool
  pub listed_too : Bool

abbrev pub carriage_of : ℕ → ℕ → Ip6 → Ip6 → List Full → List Full → List Full → Full → Carriage
carriage_of n m own other before H later r = record {
  delivered = map (λ (q : Full). q.delivered) later;
  left = left_from later r.first (length (wire H) - r.first);
  faults = list_any (λ (q : Full). list_any is_fault q.made) (r ∷ later);
  fates = map (λ (q : Full). q.fate) later;
  handed = sizes later;
  listed = is_listed other (now before) (mentions (journal n before).entries);
  listed_too = is_listed own (now before) (mentions (journal m before).entries);
}

-- of the record behind the k latest, with a packet from client n for client m
abbrev pub carriage : ℕ → ℕ → Ip6 → Ip6 → ℕ → List Full → Option Carriage
carriage n m own other k H = option_map (carriage_of n m own other (drop (suc k) H) H (take k H)) (slice_get H k)

-- WHERE THE PACKET DOESN'T ARRIVE

-- nothing was handed over
abbrev pub is_none_over : List (Option ℕ) → Bool
is_none_over [] = true
is_none_over (o ∷ os) = cond (is_some o) false (is_none_over os)

not_come : (m : ℕ) (x : List ℕ) (later : List Full) → is_none_over (sizes later) ≡ true → HasArrived m x later → ⊥
not_come m x [] none come = come
not_come m x (q ∷ later) none (inl a) = false≢true (ap (λ (o : Option (List ℕ)). cond (is_some (option_map (λ (z : List ℕ). length z) o)) false (is_none_over (sizes later))) (sym a.packet) ∙ none)
not_come m x (q ∷ later) none (inr come) = by (is_some (option_map (λ (z : List ℕ). length z) q.handed)) none (λ e. not_come m x later e come) where
  by : (b : Bool) → cond b false (is_none_over (sizes later)) ≡ true → (is_none_over (sizes later) ≡ true → ⊥) → ⊥
  by true e ih = false≢true e
  by false e ih = ih e

abbrev is_empty : List ℕ → Bool
is_empty [] = true
is_empty (i ∷ is) = false

all_there : (later : List Full) (i n : ℕ) → left_from later i n ≡ [] → (number : ℕ) → i ≤ number → number < i + n → was_delivered number later ≡ true
all_there later i zero none number low high = absurd (omega (arith, low, high))
all_there later i (suc n) none number low high = by (was_delivered i later) refl none (all_there later (i + 1) n) where
  by : (b : Bool) → was_delivered i later ≡ b → cond b (left_from later (i + 1) n) (i ∷ left_from later (i + 1) n) ≡ []
      → (left_from later (i + 1) n ≡ [] → (k : ℕ) → i + 1 ≤ k → k < i + 1 + n → was_delivered k later ≡ true) → was_delivered number later ≡ true
  by false e h ih = absurd (false≢true (ap is_empty h))
  by true e h ih = at (i == number) refl where
    at : (c : Bool) → (i == number) ≡ c → was_delivered number later ≡ true
    at true f = let same : i ≡ number = grind (arith, nat_tests) in subst (λ (k : ℕ). was_delivered k later ≡ true) same e
    at false f = ih h number (grind (arith, nat_tests)) (omega (arith, high))

rejoined : (k : ℕ) (H : List Full) (r : Full) → slice_get H k ≡ Some r → take k H ++ r ∷ drop (suc k) H ≡ H
rejoined k [] r at = absurd (false≢true (ap (λ (o : Option Full). is_some o) at))
rejoined zero (q ∷ H) r at = ap (λ (z : Full). z ∷ H) (sym (ap (λ (o : Option Full). unwrap_or o q) at))
rejoined (suc k) (q ∷ H) r at = ap (λ (z : List Full). q ∷ z) (rejoined k H r at)

-- a schedule is complete where nothing of the wire is left
pub complete_if : (k : ℕ) (H : List Full) (r : Full) → slice_get H k ≡ Some r → left_from (take k H) r.first (length (wire H) - r.first) ≡ []
    → IsComplete (drop (suc k) H) r (take k H)
complete_if k H r at nothing = λ number low high. (
    let within : number < length (wire H) = subst (λ (xs : List Full). number < length (wire xs)) (rejoined k H r at) high in
    all_there (take k H) r.first (length (wire H) - r.first) nothing number low (omega (arith, low, within)))

-- two clients, of which the first sends to the second
pub record Two : Type 0 where
  pub sender : ℕ
  pub receiver : ℕ
  pub own : Ip6
  pub other : Ip6

-- no packet that record k begins with gets through
abbrev pub NothingThrough : Two → ℕ → List Full → Type 0
NothingThrough t k H = (r : Full) → slice_get H k ≡ Some r → (x : List ℕ) → GetsThrough (drop (suc k) H) r t.receiver t.own t.other x (take k H) → ⊥

-- a complete schedule that hands nothing over carries nothing
pub not_carried : (t : Two) (k : ℕ) (H : List Full) (c : Carriage) → carriage t.sender t.receiver t.own t.other k H ≡ Some c → c.left ≡ []
    → is_none_over c.handed ≡ true → NothingThrough t k H
not_carried t k H c seen left none r at x carried =
    let of : Full → Carriage = carriage_of t.sender t.receiver t.own t.other (drop (suc k) H) H (take k H) in
    let is : of r ≡ c = ap (λ (o : Option Carriage). unwrap_or o c) (sym (ap (option_map of) at) ∙ seen) in
    let nothing : left_from (take k H) r.first (length (wire H) - r.first) ≡ [] = ap (λ (v : Carriage). v.left) is ∙ left in
    not_come t.receiver x (take k H) (ap (λ (v : Carriage). is_none_over v.handed) is ∙ none) (carried.arrives (complete_if k H r at nothing))

-- none of it arrives
abbrev pub NothingArrives : Two → ℕ → List Full → Type 0
NothingArrives t k H = (r : Full) → slice_get H k ≡ Some r → (x : List ℕ) → HasArrived t.receiver x (take k H) → ⊥

-- one that hands nothing over brings the packet nowhere, complete or not
pub not_arrived : (t : Two) (k : ℕ) (H : List Full) (c : Carriage) → carriage t.sender t.receiver t.own t.other k H ≡ Some c → is_none_over c.handed ≡ true
    → NothingArrives t k H
not_arrived t k H c seen none r at x come =
    let of : Full → Carriage = carriage_of t.sender t.receiver t.own t.other (drop (suc k) H) H (take k H) in
    let is : of r ≡ c = ap (λ (o : Option Carriage). unwrap_or o c) (sym (ap (option_map of) at) ∙ seen) in
    not_come t.receiver x (take k H) (ap (λ (v : Carriage). is_none_over v.handed) is ∙ none) come
