-- What one more place changes.
use Rattle.td_audit.proofs.Words.{AreLicensed, Bool, Datagram, IsFirstUnlicensed, List, None, Option, ServerSettings, Some, [], ap, arith, cases_lt, count_by, inl, inr, is_audited, is_same, length, length-append, map, one_if, output, refl, slice_get, subst, suc, sum_by-append, sym, take, take-append-le, take_all, take_at, times, true, zero, zero-add, ℕ, ◌++◌, ◌+◌, ◌<◌, ◌∙◌, ◌∷◌, ◌≡◌, ◌≤◌}
use Rattle.td_audit.specs.Licences.{IsLicensed}
use Rattle.td_audit.proofs.KeyLaws.{same_itself}

abbrev pub Places : Type 0
Places = List (Option Datagram)

pub one : {X : Type 0} (p : X → Bool) (x : X) → count_by p (x ∷ []) ≡ one_if (p x)
one p x = zero-add (one_if (p x))

pub count_more : {X : Type 0} (p : X → Bool) (xs : List X) (x : X) → count_by p (xs ++ x ∷ []) ≡ count_by p xs + one_if (p x)
count_more p xs x = sum_by-append (λ y. one_if (p y)) xs (x ∷ []) ∙ ap (λ (n : ℕ). count_by p xs + n) (one p x)

front_place : {X : Type 0} (xs : List X) (x : X) (k : ℕ) → k < length xs → slice_get (xs ++ x ∷ []) k ≡ slice_get xs k
front_place [] x k inside = absurd (omega arith)
front_place (y ∷ ys) x zero inside = refl
front_place (y ∷ ys) x (suc k) inside = front_place ys x k (omega arith)

last_place : {X : Type 0} (xs : List X) (x : X) → slice_get (xs ++ x ∷ []) (length xs) ≡ Some x
last_place [] x = refl
last_place (y ∷ ys) x = last_place ys x

-- what is licensed stays so
pub stays : (s : ServerSettings) (places : Places) (x : Option Datagram) (place : ℕ) → place < length places → IsLicensed s places place → IsLicensed s (places ++ x ∷ []) place
stays s places x place inside old d there from =
    let more = places ++ x ∷ [] in
    let upto = take-append-le (place + 1) places (x ∷ []) (omega arith) in
    let before = take-append-le place places (x ∷ []) (omega arith) in
    subst (λ (t : Places). times d t ≤ times d (map (output s) (take place more))) (sym upto)
    (subst (λ (t : Places). times d (take (place + 1) places) ≤ times d (map (output s) t)) (sym before)
    (old d (sym (front_place places x place inside) ∙ there) from))

-- what is licensed was so
pub was : (s : ServerSettings) (places : Places) (x : Option Datagram) (place : ℕ) → place < length places → IsLicensed s (places ++ x ∷ []) place → IsLicensed s places place
was s places x place inside new d there from =
    let upto = take-append-le (place + 1) places (x ∷ []) (omega arith) in
    let before = take-append-le place places (x ∷ []) (omega arith) in
    subst (λ (t : Places). times d t ≤ times d (map (output s) (take place places))) upto
    (subst (λ (t : Places). times d (take (place + 1) (places ++ x ∷ [])) ≤ times d (map (output s) t)) before
    (new d (front_place places x place inside ∙ there) from))

-- so the least place that isn't licensed stays it
pub first_stays : (s : ServerSettings) (places : Places) (x : Option Datagram) (place : ℕ) → IsFirstUnlicensed s places place → IsFirstUnlicensed s (places ++ x ∷ []) place
first_stays s places x place is =
    let inside = is.inside in
    record {
      inside = omega (arith, length-append places (x ∷ []));
      unlicensed = λ now. is.unlicensed (was s places x place inside now);
      before = λ earlier less. stays s places x earlier (omega arith) (is.before earlier less);
    }

-- the datagram at the last place was sent at most as often, with this time, as it was licensed
abbrev pub HasLicence : ServerSettings → Places → Datagram → Type 0
HasLicence s places d = times d places + 1 ≤ times d (map (output s) places)

abbrev held : Datagram → Option (Option Datagram)
held d = Some (Some d)

held_is : (d e : Datagram) → held d ≡ held e → d ≡ e
held_is d e same = cc

times_now : (places : Places) (d : Datagram) → times d (take (length places + 1) (places ++ Some d ∷ [])) ≡ times d places + 1
times_now places d =
    ap (times d) (take_all (length places + 1) (places ++ Some d ∷ []) (omega (arith, length-append places (Some d ∷ [])))) ∙ count_more (is_same d) places (Some d) ∙ ap (λ (b : Bool). times d places + one_if b) (same_itself d)

outputs_before : (s : ServerSettings) (places : Places) (x : Option Datagram) (d : Datagram) → times d (map (output s) (take (length places) (places ++ x ∷ []))) ≡ times d (map (output s) places)
outputs_before s places x d = ap (λ (t : Places). times d (map (output s) t)) (take_at places (x ∷ []) (length places) refl)

pub last_licensed : (s : ServerSettings) (places : Places) (d : Datagram) → (is_audited s d.src ≡ true → HasLicence s places d) → IsLicensed s (places ++ Some d ∷ []) (length places)
last_licensed s places d has e there from =
    let is : d ≡ e = held_is d e (sym (last_place places (Some d)) ∙ there) in
    let for_d : times d (take (length places + 1) (places ++ Some d ∷ [])) ≤ times d (map (output s) (take (length places) (places ++ Some d ∷ []))) =
    omega (arith, times_now places d, outputs_before s places (Some d) d, has (ap (λ (x : Datagram). is_audited s x.src) is ∙ from)) in
    subst (λ (x : Datagram). times x (take (length places + 1) (places ++ Some d ∷ [])) ≤ times x (map (output s) (take (length places) (places ++ Some d ∷ [])))) is for_d

pub last_unlicensed : (s : ServerSettings) (places : Places) (d : Datagram) → is_audited s d.src ≡ true → (HasLicence s places d → ⊥) → IsLicensed s (places ++ Some d ∷ []) (length places) → ⊥
last_unlicensed s places d from none licensed =
    none (let now = licensed d (last_place places (Some d)) from in omega (arith, times_now places d, outputs_before s places (Some d) d))

-- a place that holds no datagram is licensed
pub nothing_licensed : (s : ServerSettings) (places : Places) → IsLicensed s (places ++ None ∷ []) (length places)
nothing_licensed s places e there from = absurd (let is = sym (last_place places None) ∙ there in cc)

-- each place is licensed, and so is the last one
pub all_licensed : (s : ServerSettings) (places : Places) (x : Option Datagram) → AreLicensed s places → IsLicensed s (places ++ x ∷ []) (length places) → AreLicensed s (places ++ x ∷ [])
all_licensed s places x each last place inside =
    elim (cases_lt place (length places)) [
      | inl earlier ↦ stays s places x place earlier (each place earlier)
      | inr behind ↦
          let is : length places ≡ place = omega (arith, length-append places (x ∷ [])) in
          subst (λ (k : ℕ). IsLicensed s (places ++ x ∷ []) k) is last
    ]
