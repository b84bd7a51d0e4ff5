-- What a record adds to the sums of a history.
use Rattle.report.proofs.Words.{Bool, Full, IsTold, List, Made, Mark, Sums, [], add-one, add_comm, added, ap, arith, count_by, filter_map, handed_of, if◌then◌else◌, is_delivery, is_drop, is_entry, is_kept, is_some, item_in, items_of, length, length-append, length-map, lost, map, marks_of, record_of, refl, sent, six, sum_by, sum_by-cons, sums_of, sym, udp, wire, ℕ, ◌+◌, ◌∙◌, ◌∷◌, ◌≡◌}
use Rattle.history.specs.declared.mark.Mark.TheVariants as mark

-- one more element is counted where it passes
counted : {A : Type 0} (test : A → Bool) (x : A) (xs : List A) → count_by test xs + (if test x then 1 else 0) ≡ count_by test (x ∷ xs)
counted {A} test x xs = add_comm (count_by test xs) (if test x then 1 else 0) ∙ sym (sum_by-cons (λ (y : A). if test y then 1 else 0) x xs)

-- one more mark
entries_step : (m : Mark) (ms : List Mark) → count_by is_entry (m ∷ ms) ≡ (if is_entry m then 1 else 0) + count_by is_entry ms
entries_step m ms = sum_by-cons (λ (x : Mark). if is_entry x then 1 else 0) m ms

-- the marks of entries are as many as the entries
marks_are_entries : (number : ℕ) (made : List Made) → count_by is_entry (marks_of number made) ≡ length (filter_map item_in made)
marks_are_entries number [] = refl
marks_are_entries number (sent (udp src dst bytes) ∷ made) = omega (arith, entries_step (mark.Udp number src dst (length bytes)) (marks_of (number + 1) made), marks_are_entries (number + 1) made)
marks_are_entries number (sent (six relay bytes) ∷ made) = omega (arith, entries_step (mark.Six number relay (length bytes)) (marks_of (number + 1) made), marks_are_entries (number + 1) made)
marks_are_entries number (lost why dst bytes ∷ made) = omega (arith, entries_step (mark.Lost why dst (length bytes)) (marks_of number made), marks_are_entries number made)

abbrev sums : (records entries delivered handed kept dropped : ℕ) → Sums
sums records entries delivered handed kept dropped = record { records = records; entries = entries; delivered = delivered; handed = handed; kept = kept; dropped = dropped }

same_sums : {a a' b b' c c' d d' e e' f f' : ℕ} → a ≡ a' → b ≡ b' → c ≡ c' → d ≡ d' → e ≡ e' → f ≡ f' → sums a b c d e f ≡ sums a' b' c' d' e' f'
same_sums p q r s t u = rw (p, q, r, s, t, u) refl

entries_more : (H : List Full) (r : Full) → length (wire H) + count_by is_entry (marks_of r.first r.made) ≡ length (wire (r ∷ H))
entries_more H r = ap (λ (n : ℕ). length (wire H) + n) (marks_are_entries r.first r.made) ∙ sym (length-append (wire H) (items_of r))

delivered_more : (H : List Full) (r : Full) → IsTold r → count_by (λ (f : Full). is_some f.delivered) H + (if is_delivery r.act r.fate then 1 else 0) ≡ count_by (λ (f : Full). is_some f.delivered) (r ∷ H)
delivered_more H r told =
    ap (λ (b : Bool). count_by (λ (f : Full). is_some f.delivered) H + (if b then 1 else 0)) (sym told.delivered) ∙ counted (λ (f : Full). is_some f.delivered) r H

handed_more : (H : List Full) (r : Full)
    → count_by (λ (f : Full). is_some (handed_of f)) H + sum_by (λ (f : Full). length f.late) H + ((if is_some (handed_of r) then 1 else 0) + length (map length r.late))
    ≡ count_by (λ (f : Full). is_some (handed_of f)) (r ∷ H) + sum_by (λ (f : Full). length f.late) (r ∷ H)
handed_more H r =
    let once = counted (λ (f : Full). is_some (handed_of f)) r H in
    let late = sum_by-cons (λ (f : Full). length f.late) r H in
    let same = length-map r.late length in
    omega (arith, once, late, same)

pub sums_more : (H : List Full) (r : Full) → IsTold r → added (sums_of H) (record_of r) ≡ sums_of (r ∷ H)
sums_more H r told = same_sums (add-one (length H)) (entries_more H r) (delivered_more H r told) (handed_more H r) (counted (λ (f : Full). is_kept f.fate) r H) (counted (λ (f : Full). is_drop f.fate) r H)

pub sums_after : (old new : Sums) (H : List Full) (r : Full) → new ≡ added old (record_of r) → old ≡ sums_of H → IsTold r → new ≡ sums_of (r ∷ H)
sums_after old new H r e f told = e ∙ ap (λ (s : Sums). added s (record_of r)) f ∙ sums_more H r told
