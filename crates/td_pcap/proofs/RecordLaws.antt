-- What is read of a record is spelled so, and what is spelled so is read.
use Rattle.td_pcap.proofs.Words.{Big, Bool, CapFault, Captured, Cut, Err, IfSome, IsBytes, IsCaptured, IsRecordFault, Link, List, Magic, None, Ok, Option, Result, Some, StandsAt, Version, ap, append_assoc, arith, captured_at, chosen, cond, cond-false, cond-true, cut, drop, false, guard_err, guard_ok, inl, inr, kept_said, le-leb, le-ltb, leb, leb-false, leb-true, length, length-append, length-drop, length-take, lt-leb, ltb, ltb-false, ltb-true, next_record, ordered_bytes, ordered_number, record_bytes, refl, subst, sym, take, take_at, ℕ, ◌++◌, ◌+◌, ◌<◌, ◌∙◌, ◌≡◌, ◌≤◌}
use Rattle.td_pcap.proofs.OrderLaws.{length-ordered_bytes, ordered_number-lt, number_in_front, more_behind, stands_4}

abbrev pub Step : Type 0
Step = Option (Captured × ℕ)

pub record_len : (little : Bool) (r : Captured) → length (record_bytes little r) ≡ 16 + length r.bytes
unfolding record_bytes
record_len little r =
    let n = length r.bytes in
    let four = λ (number : ℕ). length-ordered_bytes little 4 number in
    let d = length-append (ordered_bytes little 4 r.orig) r.bytes in
    let c = length-append (ordered_bytes little 4 n) (ordered_bytes little 4 r.orig ++ r.bytes) in
    let b = length-append (ordered_bytes little 4 r.frac) (ordered_bytes little 4 n ++ (ordered_bytes little 4 r.orig ++ r.bytes)) in
    let a = length-append (ordered_bytes little 4 r.sec) (ordered_bytes little 4 r.frac ++ (ordered_bytes little 4 n ++ (ordered_bytes little 4 r.orig ++ r.bytes))) in
    omega (arith, a, b, c, d, four r.sec, four r.frac, four n, four r.orig)

made : (sec frac orig : ℕ) (bytes : List ℕ) → Captured
made s f o b = record { sec = s; frac = f; orig = o; bytes = b }

same_record : (a b : Captured) → a.sec ≡ b.sec → a.frac ≡ b.frac → a.orig ≡ b.orig → a.bytes ≡ b.bytes → a ≡ b
unfolding made
same_record a b sec frac orig bytes =
    let e : made a.sec a.frac a.orig a.bytes ≡ made b.sec b.frac b.orig b.bytes = cc in
    e

-- what a record that stands at a place shows
pub record Shown (little : Bool) (at : ℕ) (x : List ℕ) (r : Captured) : Type 0 where
  pub kept : kept_said little at x ≡ length r.bytes
  pub record_is : captured_at little at (length r.bytes) x ≡ r
  pub long : at + 16 + length r.bytes ≤ length x

pub shown : (little : Bool) (at : ℕ) (x rest : List ℕ) (r : Captured) → IsCaptured r → at ≤ length x → drop at x ≡ record_bytes little r ++ rest → Shown little at x r
unfolding record_bytes captured_at
shown little at x rest r fits inside is =
    let n = length r.bytes in
    let whole : length (drop at x) ≡ 16 + n + length rest = ap length is ∙ length-append (record_bytes little r) rest ∙ ap (λ (k : ℕ). k + length rest) (record_len little r) in
    let d : List ℕ = ordered_bytes little 4 r.orig ++ r.bytes in
    let c : List ℕ = ordered_bytes little 4 n ++ d in
    let b : List ℕ = ordered_bytes little 4 r.frac ++ c in
    let second : drop (at + 4) x ≡ b ++ rest = more_behind little at 4 (at + 4) r.sec x b rest refl is in
    let third : drop (at + 8) x ≡ c ++ rest = more_behind little (at + 4) 4 (at + 8) r.frac x c rest (omega arith) second in
    let fourth : drop (at + 12) x ≡ d ++ rest = more_behind little (at + 8) 4 (at + 12) n x d rest (omega arith) third in
    let last : drop (at + 16) x ≡ r.bytes ++ rest = more_behind little (at + 12) 4 (at + 16) r.orig x r.bytes rest (omega arith) fourth in
    let sec = number_in_front little at 4 r.sec x b rest fits.sec is in
    let frac = number_in_front little (at + 4) 4 r.frac x c rest fits.frac second in
    let kept = number_in_front little (at + 8) 4 n x d rest (omega (arith, fits.kept)) third in
    let orig = number_in_front little (at + 12) 4 r.orig x r.bytes rest fits.orig fourth in
    let bytes : take n (drop (at + 16) x) ≡ r.bytes = ap (take n) last ∙ take_at r.bytes rest n refl in
    record { kept = kept; record_is = same_record (captured_at little at n x) r sec frac orig bytes; long = omega (arith, whole, length-drop at x) }

grouped : (a b c d e rest : List ℕ) → a ++ (b ++ (c ++ (d ++ (e ++ rest)))) ≡ (a ++ (b ++ (c ++ (d ++ e)))) ++ rest
grouped a b c d e rest =
    sym (append_assoc a (b ++ (c ++ (d ++ e))) rest ∙ ap (λ (t : List ℕ). a ++ t) (append_assoc b (c ++ (d ++ e)) rest ∙ ap (λ (t : List ℕ). b ++ t) (append_assoc c (d ++ e) rest ∙ ap (λ (t : List ℕ). c ++ t) (append_assoc d e rest))))

-- what is read at a place stands there
spelled : (little : Bool) (at : ℕ) (x : List ℕ) → IsBytes x → at + 16 + kept_said little at x ≤ length x → drop at x ≡ record_bytes little (captured_at little at (kept_said little at x) x) ++ drop (at + 16 + kept_said little at x) x
unfolding record_bytes captured_at
spelled little at x fits long =
    let n = kept_said little at x in
    let bytes : List ℕ = take n (drop (at + 16) x) in
    let four = λ (place : ℕ). ordered_bytes little 4 (ordered_number little place 4 x) in
    let kept_is : n ≡ length bytes = omega (arith, length-take n (drop (at + 16) x), length-drop (at + 16) x) in
    let a = stands_4 little at (at + 4) x fits (omega arith) refl in
    let b = stands_4 little (at + 4) (at + 8) x fits (omega arith) (omega arith) in
    let c = stands_4 little (at + 8) (at + 12) x fits (omega arith) (omega arith) ∙ ap (λ (k : ℕ). ordered_bytes little 4 k ++ drop (at + 12) x) kept_is in
    let d = stands_4 little (at + 12) (at + 16) x fits (omega arith) (omega arith) in
    let e = cut (at + 16) n x in
    let said : List ℕ = ordered_bytes little 4 (length bytes) in
    a ∙ ap (λ (t : List ℕ). four at ++ t) (b ∙ ap (λ (t : List ℕ). four (at + 4) ++ t) (c ∙ ap (λ (t : List ℕ). said ++ t) (d ∙ ap (λ (t : List ℕ). four (at + 12) ++ t) e)))
    ∙ grouped (four at) (four (at + 4)) said (four (at + 12)) bytes (drop (at + 16 + n) x)

pub stands : (little : Bool) (at : ℕ) (x : List ℕ) → IsBytes x → at + 16 + kept_said little at x ≤ length x → kept_said little at x ≤ 65535
    → StandsAt little (captured_at little at (kept_said little at x) x) at (at + 16 + kept_said little at x) x
unfolding captured_at
stands little at x fits long small =
    let n = kept_said little at x in
    let r = captured_at little at n x in
    let kept : length r.bytes ≡ n = omega (arith, length-take n (drop (at + 16) x), length-drop (at + 16) x) in
    record {
      fits = record { sec = ordered_number-lt little at 4 x fits; frac = ordered_number-lt little (at + 4) 4 x fits; orig = ordered_number-lt little (at + 12) 4 x fits; kept = omega (arith, kept) };
      bytes = spelled little at x fits long;
      ends = omega (arith, record_len little r, kept);
      inside = long;
    }

abbrev pub step : Step → Result Step CapFault
step s = Ok s

step_is : (a b : Step) → step a ≡ step b → a ≡ b
step_is a b e = cc

pub pair_is : (a b : Captured × ℕ) → step (Some a) ≡ step (Some b) → a ≡ b
pair_is a b e = cc

-- the three tests behind the end's
abbrev fourth : Bool → ℕ → List ℕ → Result Step CapFault
fourth little at x = cond (ltb (length x) (at + 16 + kept_said little at x)) (Err (Cut at)) (step (Some (captured_at little at (kept_said little at x) x, at + 16 + kept_said little at x)))

abbrev third : Bool → ℕ → List ℕ → Result Step CapFault
third little at x = cond (ltb 65535 (kept_said little at x)) (Err (Big at (kept_said little at x))) (fourth little at x)

abbrev second : Bool → ℕ → List ℕ → Result Step CapFault
second little at x = cond (ltb (length x) (at + 16)) (Err (Cut at)) (third little at x)

pub record_found : (little : Bool) (at end : ℕ) (x : List ℕ) (r : Captured) → IsBytes x → next_record little at x ≡ Ok (Some (r, end)) → StandsAt little r at end x
unfolding next_record
record_found little at end x r fits read =
    elim (chosen (leb (length x) at) (step None) (second little at x) (Ok (Some (r, end))) read) [
      | inl none ↦ absurd cc
      | inr some ↦
          let a = guard_ok (ltb (length x) (at + 16)) (Cut at) (third little at x) (Some (r, end)) some.1 in
          let b = guard_ok (ltb 65535 (kept_said little at x)) (Big at (kept_said little at x)) (fourth little at x) (Some (r, end)) a.1 in
          let c = guard_ok (ltb (length x) (at + 16 + kept_said little at x)) (Cut at) (step (Some (captured_at little at (kept_said little at x) x, at + 16 + kept_said little at x))) (Some (r, end)) b.1 in
          let is = pair_is (captured_at little at (kept_said little at x) x, at + 16 + kept_said little at x) (r, end) c.1 in
          subst (λ (p : Captured × ℕ). StandsAt little p.0 at p.1 x) is (stands little at x fits (ltb-false _ _ c.0) (ltb-false _ _ b.0))
    ]

pub nothing_found : (little : Bool) (at : ℕ) (x : List ℕ) → next_record little at x ≡ Ok None → length x ≤ at
unfolding next_record
nothing_found little at x read =
    elim (chosen (leb (length x) at) (step None) (second little at x) (Ok None) read) [
      | inl none ↦ leb-true _ _ none.0
      | inr some ↦
          let a = guard_ok (ltb (length x) (at + 16)) (Cut at) (third little at x) None some.1 in
          let b = guard_ok (ltb 65535 (kept_said little at x)) (Big at (kept_said little at x)) (fourth little at x) None a.1 in
          let c = guard_ok (ltb (length x) (at + 16 + kept_said little at x)) (Cut at) (step (Some (captured_at little at (kept_said little at x) x, at + 16 + kept_said little at x))) None b.1 in
          absurd cc
    ]

pub nothing_left : (little : Bool) (at : ℕ) (x : List ℕ) → length x ≤ at → next_record little at x ≡ Ok None
unfolding next_record
nothing_left little at x over = cond-true _ _ _ (le-leb _ _ over)

-- a record that stands at a place is read, whatever follows
pub record_read : (little : Bool) (at end : ℕ) (x rest : List ℕ) (r : Captured) → IsCaptured r → at ≤ length x
    → drop at x ≡ record_bytes little r ++ rest → end ≡ at + length (record_bytes little r) → next_record little at x ≡ Ok (Some (r, end))
unfolding next_record
record_read little at end x rest r fits inside is ends =
    let s = shown little at x rest r fits inside is in
    let kept = s.kept in
    let long = s.long in
    let small = fits.kept in
    let some : leb (length x) at ≡ false = lt-leb _ _ (omega arith) in
    let head : ltb (length x) (at + 16) ≡ false = le-ltb _ _ (omega arith) in
    let fit : ltb 65535 (kept_said little at x) ≡ false = le-ltb _ _ (omega (arith, kept, small)) in
    let body : ltb (length x) (at + 16 + kept_said little at x) ≡ false = le-ltb _ _ (omega (arith, kept, long)) in
    let end_is : at + 16 + length r.bytes ≡ end = omega (arith, ends, record_len little r) in
    let record_is : captured_at little at (kept_said little at x) x ≡ r = ap (λ (k : ℕ). captured_at little at k x) kept ∙ s.record_is in
    cond-false _ _ _ some ∙ cond-false _ _ _ head ∙ cond-false _ _ _ fit ∙ cond-false _ _ _ body
    ∙ ap (λ (q : Captured). step (Some (q, at + 16 + kept_said little at x))) record_is
    ∙ ap (λ (k : ℕ). step (Some (r, k))) (ap (λ (k : ℕ). at + 16 + k) kept ∙ end_is)

pub stands_is_read : (little : Bool) (at end : ℕ) (x : List ℕ) (r : Captured) → StandsAt little r at end x → next_record little at x ≡ Ok (Some (r, end))
stands_is_read little at end x r there =
    let ends = there.ends in
    let inside = there.inside in
    record_read little at end x (drop end x) r there.fits (omega arith) there.bytes ends

pub record_fault : (little : Bool) (at : ℕ) (x : List ℕ) (e : CapFault) → next_record little at x ≡ Err e → IsRecordFault little at e x
unfolding next_record
record_fault little at x e read =
    let n = kept_said little at x in
    let fault = λ (f : CapFault). IsRecordFault little at f x in
    elim (chosen (leb (length x) at) (step None) (second little at x) (Err e) read) [
      | inl none ↦ absurd cc
      | inr some ↦
          let left : at < length x = leb-false _ _ some.0 in
          elim (guard_err (ltb (length x) (at + 16)) (Cut at) (third little at x) e some.1) [
            | inl cut_head ↦ subst fault cut_head.1 (refl, left, inl (ltb-true _ _ cut_head.0))
            | inr a ↦
                let long : at + 16 ≤ length x = ltb-false _ _ a.0 in
                elim (guard_err (ltb 65535 n) (Big at n) (fourth little at x) e a.1) [
                  | inl big ↦ subst fault big.1 (refl, long, refl, ltb-true _ _ big.0)
                  | inr b ↦
                      elim (guard_err (ltb (length x) (at + 16 + n)) (Cut at) (step (Some (captured_at little at n x, at + 16 + n))) e b.1) [
                        | inl cut_body ↦ subst fault cut_body.1 (refl, left, inr (long, ltb-false _ _ b.0, ltb-true _ _ cut_body.0))
                        | inr done ↦ absurd cc
                      ]
                ]
          ]
    ]

-- the step s is there
abbrev pub IsStep : Bool → ℕ → List ℕ → Step → Type 0
IsStep little at x s = IfSome s (λ p. StandsAt little p.0 at p.1 x)

-- where a record stands there is no fault
pub no_record_fault : (little : Bool) (at : ℕ) (x rest : List ℕ) (r : Captured) (e : CapFault) → IsCaptured r → at ≤ length x → drop at x ≡ record_bytes little r ++ rest → IsRecordFault little at e x → ⊥
no_record_fault little at x rest r (Cut place) fits inside is fault =
    let s = shown little at x rest r fits inside is in
    let kept = s.kept in
    let long = s.long in
    elim fault.2 [
      | inl head ↦ omega (arith, head, long)
      | inr body ↦ omega (arith, body.2, kept, long)
    ]
no_record_fault little at x rest r (Big place said) fits inside is fault =
    let s = shown little at x rest r fits inside is in
    let kept = s.kept in
    let small = fits.kept in
    omega (arith, fault.2, fault.3, kept, small)
no_record_fault little at x rest r (Magic said) fits inside is fault = fault
no_record_fault little at x rest r (Version major minor) fits inside is fault = fault
no_record_fault little at x rest r (Link said) fits inside is fault = fault

-- a fault is before the end
pub fault_inside : (little : Bool) (at : ℕ) (x : List ℕ) (e : CapFault) → IsRecordFault little at e x → at < length x
fault_inside little at x (Cut place) fault = fault.1
fault_inside little at x (Big place said) fault = omega (arith, fault.1)
fault_inside little at x (Magic said) fault = absurd fault
fault_inside little at x (Version major minor) fault = absurd fault
fault_inside little at x (Link said) fault = absurd fault
