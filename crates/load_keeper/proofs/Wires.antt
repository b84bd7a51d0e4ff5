-- What a record puts onto the wire, by its marks.
use Rattle.load_keeper.proofs.Words.{Act, Fate, Full, IsAskedFor, List, Load, Loads, Made, Mark, None, Option, Packet, Some, TopologyState, [], after_made, ap, arith, delivers, drop, entries_by_marks, entry_loads, false, filter_map, get_or, get_or_past, if◌then◌else◌, inl, inr, is_delivering, is_handing_in, item_in, length, length-append, load_at, load_by_act, load_given, load_goes_on, load_that_goes_on, loads, lost, made_loads, marks_of, others, refl, sent, six, slice_get, slice_get_cases, suc, sym, udp, wire, zero, ℕ, ◌++◌, ◌+◌, ◌<◌, ◌∙◌, ◌∷◌, ◌≡◌, ◌≤◌, ◌⊎◌}
use Rattle.teredo_node.specs.declared.fate.Fate.TheVariants as fate
use Rattle.history.specs.declared.act.Act.TheVariants as act
use Rattle.load_keeper.proofs.Loops.{next_load}

-- by its marks
pub by_marks : (k : ℕ) (made : List Made) (ls : List (Option Load)) → entry_loads made ls ≡ entries_by_marks (marks_of k made) ls
by_marks k [] ls = refl
by_marks k (sent (udp src dst bytes) ∷ made) ls = ap (λ (xs : List (Option Load)). load_at ls 0 ∷ xs) (by_marks (after_made k (sent (udp src dst bytes))) made (drop 1 ls))
by_marks k (sent (six to bytes) ∷ made) ls = ap (λ (xs : List (Option Load)). load_at ls 0 ∷ xs) (by_marks (after_made k (sent (six to bytes))) made (drop 1 ls))
by_marks k (lost why dst bytes ∷ made) ls = by_marks (after_made k (lost why dst bytes)) made (drop 1 ls)

-- a list that has none at the end has the same loads
pub entries_alike : (ms : List Mark) (xs ys : List (Option Load)) → ((i : ℕ) → load_at xs i ≡ load_at ys i) → entries_by_marks ms xs ≡ entries_by_marks ms ys
entries_alike [] xs ys alike = refl
entries_alike (m ∷ ms) xs ys alike = rw (alike 0, entries_alike ms (drop 1 xs) (drop 1 ys) (λ i. next_load xs i ∙ alike (i + 1) ∙ sym (next_load ys i))) refl

none_behind : (xs : List (Option Load)) (i : ℕ) → load_at (xs ++ []) i ≡ load_at (xs ++ None ∷ []) i
none_behind [] zero = refl
none_behind [] (suc i) = refl
none_behind (x ∷ xs) zero = refl
none_behind (x ∷ xs) (suc i) = none_behind xs i

goes_alike : (f : Fate) (l : Option Load) (xs : List (Option Load)) (i : ℕ) → load_at (xs ++ load_goes_on f l) i ≡ load_at (xs ++ load_that_goes_on f l ∷ []) i
goes_alike fate.Sent l xs i = refl
goes_alike fate.SentCone l xs i = refl
goes_alike fate.SentSix l xs i = refl
goes_alike fate.Forward l xs i = refl
goes_alike fate.ForwardOrigin l xs i = refl
goes_alike fate.Six l xs i = refl
goes_alike fate.FromClient l xs i = refl
goes_alike fate.Echoed l xs i = refl
goes_alike _ l xs i = none_behind xs i

-- all that a record makes
pub entries_are : (t : TopologyState) (H : List Full) (l : Loads) (r : Full) (released : List (Option Load))
    → entries_by_marks (marks_of r.first r.made) (released ++ load_goes_on r.fate (load_given l r)) ≡ entries_by_marks (marks_of r.first r.made) (released ++ load_that_goes_on r.fate (load_given l r) ∷ [])
entries_are t H l r released = entries_alike (marks_of r.first r.made) (released ++ load_goes_on r.fate (load_given l r)) (released ++ load_that_goes_on r.fate (load_given l r) ∷ [])
    (goes_alike r.fate (load_given l r) released)

-- HOW MANY ENTRIES

entries_counted : (made : List Made) (ls : List (Option Load)) → length (entry_loads made ls) ≡ length (filter_map item_in made)
entries_counted [] ls = refl
entries_counted (sent x ∷ made) ls = ap (λ (k : ℕ). suc k) (entries_counted made (drop 1 ls))
entries_counted (lost why dst bytes ∷ made) ls = entries_counted made (drop 1 ls)

pub wire_counted : (t : TopologyState) (H : List Full) → length (loads t H).wire ≡ length (wire H)
wire_counted t [] = refl
wire_counted t (r ∷ H) = length-append (loads t H).wire (entry_loads r.made (made_loads t H (loads t H) r))
    ∙ rw (wire_counted t H, entries_counted r.made (made_loads t H (loads t H) r)) (sym (length-append (wire H) (filter_map item_in r.made)))

-- WHAT A RECORD IS GIVEN

none_beyond : {A B : Type 0} (xs : List A) (ys : List (Option B)) (i : ℕ) → length ys ≡ length xs → slice_get xs i ≡ None → get_or ys i None ≡ None
none_beyond {A} xs ys i same none = by (slice_get_cases xs i).1 where
  by : (((x : A) × (i < length xs) × (slice_get xs i ≡ Some x) × (get_or xs i x ≡ x)) ⊎ ((length xs ≤ i) × (slice_get xs i ≡ None))) → get_or ys i None ≡ None
  by (inl h) = let e : Some h.0 ≡ None = sym h.2 ∙ none in absurd (cc e)
  by (inr h) = get_or_past ys i None (omega (arith, same, h.0))

pub given_is : (t : TopologyState) (H : List Full) (r : Full) → IsAskedFor H r → load_given (loads t H) r ≡ load_by_act (loads t H).packets (loads t H).wire r.act
given_is t H r (delivers number is asked (inl d)) = rw (is, d) refl
given_is t H r (delivers number is asked (inr d)) = rw (is, d.1) (sym (none_beyond (wire H) (loads t H).wire number (wire_counted t H) d.0))
given_is t H r (others not_so none) = rw none (by r.act not_so) where
  by : (a : Act) → is_delivering a ≡ false → (if is_handing_in a then Some (Packet (loads t H).packets) else None) ≡ load_by_act (loads t H).packets (loads t H).wire a
  by act.Tick differs = refl
  by (act.Copy number) differs = refl
  by (act.Plain verb) differs = refl
  by (act.Deliver number) differs = absurd (cc differs)
