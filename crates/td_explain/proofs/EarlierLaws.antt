-- The records before the one at hand, walked once more.
use Rattle.td_explain.proofs.Words.{AllByRecursion, Bool, CapFault, Captured, Earlier, Err, Gives, IsCaptured, KeepsPast, List, None, Ok, Option, Past, Rec, Result, ServerSettings, Some, StandBefore, StandsAt, Walks, [], ap, append-nil, append_assoc, arith, capture_bytes, captured, datagram_in, drop, drop_at, head_bytes, length, length-append, places, record_bytes, records_bytes, refl, starts, step_view, steps, subst, sym, ℕ, ◌++◌, ◌+◌, ◌<◌, ◌∙◌, ◌∷◌, ◌≡◌, ◌≤◌}
use Rattle.td_explain.proofs.OutputLaws.{Held}
use Rattle.td_explain.proofs.SaidLaws.{places_more}

records_split : (little : Bool) (before : List Captured) (r : Captured) (after : List Captured)
    → records_bytes little (before ++ r ∷ after) ≡ records_bytes little before ++ (record_bytes little r ++ records_bytes little after)
records_split little [] r after = refl
records_split little (q ∷ qs) r after =
    ap (λ (t : List ℕ). record_bytes little q ++ t) (records_split little qs r after)
    ∙ sym (append_assoc (record_bytes little q) (records_bytes little qs) (record_bytes little r ++ records_bytes little after))

one_fits : (before : List Captured) (r : Captured) (after : List Captured) → AllByRecursion IsCaptured (before ++ r ∷ after) → IsCaptured r
one_fits [] r after each = each.0
one_fits (q ∷ qs) r after each = one_fits qs r after each.1

-- ---- what a reader of the code answers

abbrev first_of : Captured → Result (Option (Captured × ℕ)) CapFault → Captured
first_of none (Ok (Some step)) = step.0
first_of none (Ok None) = none
first_of none (Err fault) = none

pub is_read : (r : Captured) (end : ℕ) (step : Rec × ℕ) → Gives {E = CapFault} step_view (Ok (Some step)) (Ok (Some (r, end))) → r ≡ captured step.0
is_read r end step gives = ap (first_of r) gives

pub no_end : (r : Captured) (end : ℕ) → Gives {E = CapFault} step_view (Ok None) (Ok (Some (r, end))) → ⊥
no_end r end gives = absurd cc

pub no_fault : (r : Captured) (end : ℕ) (fault : CapFault) → Gives {E = CapFault} step_view (Err fault) (Ok (Some (r, end))) → ⊥
no_fault r end fault gives = absurd cc

-- ---- one record after the other

-- behind the head nothing was walked yet
pub begins : (x : Earlier) (rs : List Captured) → StandBefore x rs → Walks x.head 24 x.bytes.now []
begins x rs all = starts x.head x.bytes.now (record {
  fits = all.fits.head;
  rest = records_bytes x.head.little rs ++ all.rest;
  bytes = all.bytes ∙ append_assoc (head_bytes x.head) (records_bytes x.head.little rs) all.rest;
})

-- the record behind those that were walked stands where the walk has come to
next_stands : (x : Earlier) (at : ℕ) (before : List Captured) (r : Captured) (after : List Captured) → StandBefore x (before ++ r ∷ after)
    → Walks x.head at x.bytes.now before → StandsAt x.head.little r at (at + length (record_bytes x.head.little r)) x.bytes.now
next_stands x at before r after all w =
    let h = x.head in
    let one = record_bytes h.little r in
    let front = capture_bytes h before in
    let more = records_bytes h.little after in
    let tail = more ++ all.rest in
    let end : ℕ = at + length one in
    let is : x.bytes.now ≡ front ++ (one ++ tail) =
    all.bytes ∙ ap (λ (t : List ℕ). (head_bytes h ++ t) ++ all.rest) (records_split h.little before r after)
    ∙ ap (λ (t : List ℕ). t ++ all.rest) (sym (append_assoc (head_bytes h) (records_bytes h.little before) (one ++ more)))
    ∙ append_assoc front (one ++ more) all.rest ∙ ap (λ (t : List ℕ). front ++ t) (append_assoc one more all.rest) in
    let here : drop at x.bytes.now ≡ one ++ tail = ap (drop at) is ∙ drop_at front (one ++ tail) at (sym w.place) in
    let grouped : x.bytes.now ≡ (front ++ one) ++ tail = is ∙ sym (append_assoc front one tail) in
    let long : length (front ++ one) ≡ end = omega (arith, length-append front one, w.place) in
    let behind : drop end x.bytes.now ≡ tail = ap (drop end) grouped ∙ drop_at (front ++ one) tail end long in
    record {
      fits = one_fits before r after all.fits.records;
      bytes = here ∙ ap (λ (t : List ℕ). one ++ t) (sym behind);
      ends = refl;
      inside = omega (arith, ap length grouped, length-append (front ++ one) tail, long);
    }

-- of these records those in front are noted
pub record Noted (s : ServerSettings) (x : Earlier) (past : Past) (at place : ℕ) (rs : List Captured) : Type 0 where
  pub before : List Captured
  pub after : List Captured
  pub whole : rs ≡ before ++ after
  pub walks : Walks x.head at x.bytes.now before
  pub place_is : place ≡ length before
  pub keeps : KeepsPast s past (places before) (places before)

-- so it is of all records that stand there
pub record NotesFront (s : ServerSettings) (x : Earlier) (past : Past) (at place : ℕ) : Type 0 where
  pub inside : at ≤ length x.bytes.now
  pub noted : (rs : List Captured) → StandBefore x rs → Noted s x past at place rs

-- the record that is walked next
pub record Upcoming (x : Earlier) (at : ℕ) (before rs : List Captured) : Type 0 where
  pub record_is : Captured
  pub after : List Captured
  pub whole : rs ≡ before ++ record_is ∷ after
  pub stands : StandsAt x.head.little record_is at (at + length (record_bytes x.head.little record_is)) x.bytes.now

module _ {s : ServerSettings} {x : Earlier} {past : Past} {at place : ℕ} {rs : List Captured} (n : Noted s x past at place rs) where
  -- all are noted
  pub all_noted : StandBefore x rs → x.count ≤ place → KeepsPast s past (places rs) (places rs)
  all_noted all done = by n.after n.whole
    where
      by : (after : List Captured) → rs ≡ n.before ++ after → KeepsPast s past (places rs) (places rs)
      by [] is = subst (λ (qs : List Captured). KeepsPast s past (places qs) (places qs)) (sym (is ∙ append-nil n.before)) n.keeps
      by (r ∷ after) is =
          let count = all.count_is in
          let place_is = n.place_is in
          absurd (omega (arith, done, count, place_is, ap length is, length-append n.before (r ∷ after)))

  -- some aren't
  pub upcoming : StandBefore x rs → place < x.count → Upcoming x at n.before rs
  upcoming all less = by n.after n.whole
    where
      by : (after : List Captured) → rs ≡ n.before ++ after → Upcoming x at n.before rs
      by [] is =
          let count = all.count_is in
          let place_is = n.place_is in
          absurd (omega (arith, less, count, place_is, ap length (is ∙ append-nil n.before)))
      by (r ∷ after) is = record {
        record_is = r;
        after = after;
        whole = is;
        stands = next_stands x at n.before r after (subst (StandBefore x) is all) n.walks;
      }

  -- one more is
  pub one_noted : (more : Past) (end : ℕ) (r : Captured) (after : List Captured) → rs ≡ n.before ++ r ∷ after → StandsAt x.head.little r at end x.bytes.now
      → at < end → KeepsPast s more (places n.before ++ datagram_in r.bytes ∷ []) (places n.before ++ datagram_in r.bytes ∷ []) → Noted s x more end (place + 1) rs
  one_noted more end r after is stands further keeps =
      let place_is = n.place_is in
      record {
        before = n.before ++ r ∷ [];
        after = after;
        whole = is ∙ sym (append_assoc n.before (r ∷ []) after);
        walks = steps x.head at end x.bytes.now n.before r n.walks stands further;
        place_is = omega (arith, place_is, length-append n.before (r ∷ []));
        keeps = subst (λ (held : Held). KeepsPast s more held held) (sym (places_more n.before r)) keeps;
      }
