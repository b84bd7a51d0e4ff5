-- What a server sends in a laboratory is licensed by what came to it.
use Rattle.theory_wires.proofs.ReadsBack.{each_reads_back}
use Rattle.theory_wires.proofs.Words.{Bool, Datagram, EachWireIsClean, Full, Grown, IsHeardOnce, IsLicensed, IsOwnVoice, IsVerdict, Item, Lab, List, Option, ServerNode, ServerSettings, [], ap, arith, audited, capture_head, capture_records, cases_lt, clean_wire, count_by, inl, inr, is_audited, is_from_audited, is_number, is_same, is_sent_by, is_sent_to, is_skipped, is_to_audited, items_of, length, length-map, list_any, map, not, or_parts, output, refl, six, slice_get, speaks_for, stays, subst, suc, sym, take, take-append-le, take_all, take_at, times, udp, wire, zero, ℕ, ◌&&◌, ◌++◌, ◌+◌, ◌<◌, ◌∙◌, ◌∷◌, ◌≡◌, ◌≤◌, ◌⊎◌}
use Rattle.theory_wires.proofs.Counting.{count_cons, count_map, count_same, count_front}
use Rattle.theory_wires.proofs.Places.{held, places_are}
use Rattle.theory_wires.proofs.ServerReplies.{Audited, settings_of}
use Rattle.theory_wires.proofs.AskedBefore.{sent_few}

module _ (v : Audited) where
  abbrev lab : Lab
  lab = v.lab

  abbrev a : ServerNode
  a = v.row

  abbrev s : ServerSettings
  s = settings_of v

  -- EACH PLACE

  front_get : {A : Type 0} (xs ys : List A) (k : ℕ) → k < length xs → slice_get (xs ++ ys) k ≡ slice_get xs k
  front_get [] ys k inside = absurd (omega (arith, inside))
  front_get (x ∷ xs) ys zero inside = refl
  front_get (x ∷ xs) ys (suc k) inside = front_get xs ys k (omega (arith, inside))

  map_append : (xs ys : List Item) → map held (xs ++ ys) ≡ map held xs ++ map held ys
  map_append [] ys = refl
  map_append (x ∷ xs) ys = ap (λ (os : List (Option Datagram)). held x ∷ os) (map_append xs ys)

  -- a place is licensed by those before it, whatever follows
  still : (xs ys : List (Option Datagram)) (place : ℕ) → place < length xs → IsLicensed s xs place → IsLicensed s (xs ++ ys) place
  still xs ys place inside old d at from =
      let upto = take-append-le (place + 1) xs ys (omega (arith, inside)) in
      let before = take-append-le place xs ys (omega (arith, inside)) in
      subst (λ (t : List (Option Datagram)). times d t ≤ times d (map (output s) (take place (xs ++ ys)))) (sym upto)
      (subst (λ (t : List (Option Datagram)). times d (take (place + 1) xs) ≤ times d (map (output s) t)) (sym before)
      (old d (sym (front_get xs ys place inside) ∙ at) from))

  -- so is one that the latest record made
  latest : (H : List Full) (r : Full) → Grown lab (r ∷ H) → IsOwnVoice a (r ∷ H) → IsHeardOnce a (r ∷ H) → (place : ℕ) → length (wire H) ≤ place
      → IsLicensed s (map held (wire (r ∷ H))) place
  latest H r g voice once place behind d at from =
      let all = map held (wire (r ∷ H)) in
      let before = map held (wire H) in
      let joined : all ≡ before ++ map held (items_of r) = map_append (wire H) (items_of r) in
      let many : length before ≡ length (wire H) = length-map (wire H) held in
      let whole : count_by (is_same d) (take (place + 1) all) ≤ count_by (is_same d) all =
      let less = count_front (is_same d) all (place + 1) (place + 1 + length all) (omega arith) in
      let same = ap (λ (t : List (Option Datagram)). count_by (is_same d) t) (take_all (place + 1 + length all) all (omega arith)) in
      omega (arith, less, same) in
      let few = sent_few v d from H r g voice once in
      let sent_as = count_map (is_same d) held (wire (r ∷ H)) in
      let asked_as = count_map (λ (q : Option Datagram). is_same d (output s q)) held (wire H) in
      let front : take (length before) all ≡ before = ap (take (length before)) joined ∙ take_at before (map held (items_of r)) (length before) refl in
      let less = count_front (λ (q : Option Datagram). is_same d (output s q)) all (length before) place (omega (arith, many, behind)) in
      let same = ap (λ (t : List (Option Datagram)). count_by (λ (q : Option Datagram). is_same d (output s q)) t) front in
      let outputs_as = count_map (is_same d) (output s) (take place all) in
      omega (arith, whole, few, sent_as, asked_as, less, same, outputs_as)

  once_before : (H : List Full) (r : Full) → IsHeardOnce a (r ∷ H) → IsHeardOnce a H
  once_before H r once i x at of =
      let one = once i x (stays (wire H) (items_of r) i x at) of in
      let whole = count_cons (λ (q : Full). is_number i q.delivered) r H in
      omega (arith, one, whole)

  licensed : (H : List Full) → Grown lab H → IsOwnVoice a H → IsHeardOnce a H → (place : ℕ) → place < length (wire H) → IsLicensed s (map held (wire H)) place
  licensed [] g voice once place inside = absurd (omega (arith, inside))
  licensed (r ∷ H) g voice once place inside =
      by (cases_lt place (length (wire H)))
      (licensed H g.1 (or_parts (speaks_for a r.asked) (list_any (λ (q : Full). speaks_for a q.asked) H) voice).1 (once_before H r once) place)
    where
      by : (place < length (wire H)) ⊎ (length (wire H) ≤ place) → (place < length (wire H) → IsLicensed s (map held (wire H)) place)
          → IsLicensed s (map held (wire (r ∷ H))) place
      by (inl early) ih =
          let many : length (map held (wire H)) ≡ length (wire H) = length-map (wire H) held in
          subst (λ (t : List (Option Datagram)). IsLicensed s t place) (sym (map_append (wire H) (items_of r)))
          (still (map held (wire H)) (map held (items_of r)) place (omega (arith, early, many)) (ih early))
      by (inr late) ih = latest H r g voice once place late

  -- THE VERDICT

  to_is : (x : Item) → is_to_audited s (held x) ≡ is_sent_to a x
  unfolding is_audited
  to_is (udp src dst bytes) = refl
  to_is (six relay bytes) = refl

  from_is : (x : Item) → is_from_audited s (held x) ≡ is_sent_by a x
  unfolding is_audited
  from_is (udp src dst bytes) = refl
  from_is (six relay bytes) = refl

  skipped_is : (x : Item) → is_skipped s (held x) ≡ (not (is_sent_to a x) && not (is_sent_by a x))
  skipped_is x = ap (λ (b : Bool). not b && not (is_from_audited s (held x))) (to_is x) ∙ ap (λ (b : Bool). not (is_sent_to a x) && not b) (from_is x)

  counted : (p : Option Datagram → Bool) (q : Item → Bool) (xs : List Item) → ((x : Item) → p (held x) ≡ q x) → count_by q xs ≡ count_by p (map held xs)
  counted p q xs same = sym (count_map p held xs ∙ count_same (λ x. p (held x)) q xs same)

  clean : (H : List Full) → Grown lab H → IsOwnVoice a H → IsHeardOnce a H → IsVerdict s (map held (wire H)) (clean_wire a H)
  clean H g voice once =
      let many : length (map held (wire H)) ≡ length (wire H) = length-map (wire H) held in (
        λ place inside. licensed H g voice once place (omega (arith, inside, many)),
        sym many,
        counted (is_to_audited s) (is_sent_to a) (wire H) to_is,
        counted (is_from_audited s) (is_sent_by a) (wire H) from_is,
        counted (is_skipped s) (λ x. not (is_sent_to a x) && not (is_sent_by a x)) (wire H) skipped_is,
      )

pub each_is_clean : EachWireIsClean
each_is_clean lab H is g n a there voice once =
    let back = each_reads_back lab H is g in
    let v : Audited = record { lab = lab; is = is; number = n; row = a; there = there } in
    record {
      head = capture_head;
      records = capture_records H;
      capture = back.capture;
      verdict_is =
          subst (λ (t : List (Option Datagram)). IsVerdict (audited a.primary a.secondary) t (clean_wire a H))
          (sym (places_are (wire H) (capture_records H) back.records))
          (clean v H g voice once);
    }
