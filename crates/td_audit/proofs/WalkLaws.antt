-- How far a capture was read, after one more record.
use Rattle.td_audit.proofs.Words.{AllByRecursion, BeginsWithHead, Bool, CapFault, CaptureBytes, Captured, Head, IsCaptured, IsFaultBehindRecords, IsRecordFault, List, StandsAt, Walks, [], ap, append-nil, append_assoc, arith, capture_bytes, capture_is_bytes, datagram_in, drop, drop_all, drop_at, head_bytes, length, length-append, length-map, places, record_bytes, records_bytes, subst, sym, ℕ, ◌++◌, ◌+◌, ◌<◌, ◌^◌, ◌∙◌, ◌∷◌, ◌≡◌}

records_more : (little : Bool) (rs : List Captured) (r : Captured) → records_bytes little (rs ++ r ∷ []) ≡ records_bytes little rs ++ record_bytes little r
records_more little [] r = append-nil (record_bytes little r)
records_more little (q ∷ rs) r = ap (λ (t : List ℕ). record_bytes little q ++ t) (records_more little rs r) ∙ sym (append_assoc (record_bytes little q) (records_bytes little rs) (record_bytes little r))

all_more : (rs : List Captured) (r : Captured) → AllByRecursion IsCaptured rs → IsCaptured r → AllByRecursion IsCaptured (rs ++ r ∷ [])
all_more [] r each one = (one, tt)
all_more (q ∷ rs) r each one = (each.0, all_more rs r each.1 one)

capture_more : (h : Head) (rs : List Captured) (r : Captured) → capture_bytes h (rs ++ r ∷ []) ≡ capture_bytes h rs ++ record_bytes h.little r
capture_more h rs r = ap (λ (t : List ℕ). head_bytes h ++ t) (records_more h.little rs r) ∙ sym (append_assoc (head_bytes h) (records_bytes h.little rs) (record_bytes h.little r))

-- behind the head nothing was read yet
pub starts : (h : Head) (x : List ℕ) → BeginsWithHead h x → Walks h 24 x []
starts h x begins =
    let long : length (head_bytes h) ≡ 24 = capture_is_bytes.head_long h in
    let whole : capture_bytes h [] ≡ head_bytes h = append-nil (head_bytes h) in
    let rest : drop 24 x ≡ begins.rest = ap (drop 24) begins.bytes ∙ drop_at (head_bytes h) begins.rest 24 long in
    record {
      fits = record { head = begins.fits; records = tt };
      bytes = begins.bytes ∙ ap (λ (t : List ℕ). t ++ begins.rest) (sym whole) ∙ ap (λ (t : List ℕ). capture_bytes h [] ++ t) (sym rest);
      place = sym long ∙ ap length (sym whole);
      inside = omega (arith, ap length begins.bytes, length-append (head_bytes h) begins.rest, long);
      few = omega arith;
    }

-- how many places there are
pub few_places : (h : Head) (at : ℕ) (x : List ℕ) (rs : List Captured) → Walks h at x rs → at + 1 < 2 ^ 64 → length (places rs) + 1 < 2 ^ 64
few_places h at x rs w small = let few = w.few in omega (arith, few, small, length-map rs (λ (r : Captured). datagram_in r.bytes))

-- one more record stands where the walk has come to
pub steps : (h : Head) (at end : ℕ) (x : List ℕ) (rs : List Captured) (r : Captured) → Walks h at x rs → StandsAt h.little r at end x → at < end → Walks h end x (rs ++ r ∷ [])
steps h at end x rs r w there further =
    let whole = capture_more h rs r in
    let ends = there.ends in
    let place = w.place in
    let few = w.few in
    record {
      fits = record { head = w.fits.head; records = all_more rs r w.fits.records there.fits };
      bytes = w.bytes ∙ ap (λ (t : List ℕ). capture_bytes h rs ++ t) there.bytes ∙ sym
          (append_assoc (capture_bytes h rs) (record_bytes h.little r) (drop end x)) ∙ ap (λ (t : List ℕ). t ++ drop end x) (sym whole);
      place = omega (arith, ends, place, ap length whole, length-append (capture_bytes h rs) (record_bytes h.little r));
      inside = there.inside;
      few = omega (arith, few, further, length-append rs (r ∷ []));
    }

-- the whole capture was walked
pub whole : (h : Head) (at : ℕ) (x : List ℕ) (rs : List Captured) → Walks h at x rs → at ≡ length x → CaptureBytes h rs x
whole h at x rs w all = record {
  fits = w.fits;
  bytes = w.bytes ∙ ap (λ (t : List ℕ). capture_bytes h rs ++ t) (drop_all at x (omega (arith, all))) ∙ append-nil (capture_bytes h rs);
}

-- a fault stands there
pub faulty : (h : Head) (at : ℕ) (x : List ℕ) (rs : List Captured) (fault : CapFault) → Walks h at x rs → IsRecordFault h.little at fault x → IsFaultBehindRecords fault x
faulty h at x rs fault w is = record {
  head = h;
  before = rs;
  rest = drop at x;
  fits = w.fits;
  bytes = w.bytes;
  fault = subst (λ (p : ℕ). IsRecordFault h.little p fault x) w.place is;
}
