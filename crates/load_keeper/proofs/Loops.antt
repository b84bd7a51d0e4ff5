-- Lists that grow in a loop.
use Rattle.load_keeper.proofs.Words.{Bool, Goes, Ip6, KeptLoad, List, Load, Mark, None, Option, Saying, Some, [], add-one, ap, append_assoc, arith, drop, drop-cons, entries_by_marks, entry_by_mark, false, filter, filter-append, filter_map, filter_map-append, find, get_or, get_or-append_seam, get_or_append_left, get_or_past, is_kept_of, is_lower_ip6, length, length-append, length-take-le, load_at, put_by, refl, said_of_released, saying, says_of_one, slice_get, sym, take, take-append-drop, take_more, true, ℕ, ◌++◌, ◌+◌, ◌<◌, ◌∙◌, ◌∷◌, ◌≡◌, ◌≢◌, ◌≤◌}
use Rattle.std.proofs.lemmas.List.{append-nil}
use Rattle.load_keeper.proofs.Lists.{find_before, find_behind}

-- MARKS AND LOADS

one_behind : (ms : List Mark) (ls : List (Option Load)) (l : Option Load) → said_of_released ms (ls ++ l ∷ []) ≡ said_of_released ms ls ++ says_of_one (slice_get ms (length ls)) l
one_behind [] [] l = refl
one_behind (m ∷ ms) [] l = append-nil (saying (Goes m) l)
one_behind [] (k ∷ ls) l = refl
one_behind (m ∷ ms) (k ∷ ls) l = ap (λ (xs : List Saying). saying (Goes m) k ++ xs) (one_behind ms ls l) ∙ sym (append_assoc (saying (Goes m) k) (said_of_released ms ls) (says_of_one (slice_get ms (length ls)) l))

taken : {A : Type 0} (i : ℕ) (xs : List A) → i < length xs → length (take i xs) ≡ i
taken i xs lt = length-take-le i xs (omega (arith, lt))

pub released_more : (old before after : List Saying) (ms : List Mark) (ls : List (Option Load)) (i : ℕ) (d : Option Load) → i < length ls → before ≡ old ++ said_of_released ms (take i ls)
    → after ≡ before ++ says_of_one (slice_get ms i) (get_or ls i d) → after ≡ old ++ said_of_released ms (take (i + 1) ls)
released_more old before after ms ls i d lt was more =
    let one : says_of_one (slice_get ms i) (get_or ls i d) ≡ says_of_one (slice_get ms (length (take i ls))) (get_or ls i d) = ap (λ (k : ℕ). says_of_one (slice_get ms k) (get_or ls i d)) (sym (taken i ls lt)) in
    more ∙ ap (λ (xs : List Saying). xs ++ says_of_one (slice_get ms i) (get_or ls i d)) was ∙ append_assoc old (said_of_released ms (take i ls)) (says_of_one (slice_get ms i) (get_or ls i d))
    ∙ ap (λ (xs : List Saying). old ++ xs) (ap (λ (xs : List Saying). said_of_released ms (take i ls) ++ xs) one ∙ sym (one_behind ms (take i ls) (get_or ls i d))
    ∙ ap (said_of_released ms) (sym (take_more ls i d lt)))

-- ENTRIES

pub next_load : (ls : List (Option Load)) (n : ℕ) → load_at (drop 1 ls) n ≡ load_at ls (n + 1)
next_load [] n = refl
next_load (l ∷ ls) n = rw (add-one n) refl

-- the load of a send, of those that stand first, of the one behind them, and past it
pub sent_first : (ls : List (Option Load)) (l : Option Load) (i : ℕ) → i < length ls → get_or ls i None ≡ load_at (ls ++ l ∷ []) i
sent_first ls l i lt = sym (get_or_append_left ls (l ∷ []) None i lt)

pub sent_last : (ls : List (Option Load)) (l : Option Load) (i : ℕ) → i ≡ length ls → l ≡ load_at (ls ++ l ∷ []) i
sent_last ls l i at = sym (ap (load_at (ls ++ l ∷ [])) at ∙ get_or-append_seam ls l [] None)

pub sent_none : (ls : List (Option Load)) (l : Option Load) (i : ℕ) → length ls ≤ i → i ≢ length ls → None ≡ load_at (ls ++ l ∷ []) i
sent_none ls l i past other = sym (get_or_past (ls ++ l ∷ []) i None (omega (arith, past, other, length-append ls (l ∷ []))))

entry_behind : (ms : List Mark) (m : Mark) (ls : List (Option Load)) → entries_by_marks (ms ++ m ∷ []) ls ≡ entries_by_marks ms ls ++ entry_by_mark m (load_at ls (length ms))
entry_behind [] m ls = append-nil (entry_by_mark m (load_at ls 0))
entry_behind (k ∷ ms) m ls = ap (λ (xs : List (Option Load)). entry_by_mark k (load_at ls 0) ++ xs) (entry_behind ms m (drop 1 ls))
    ∙ sym (append_assoc (entry_by_mark k (load_at ls 0)) (entries_by_marks ms (drop 1 ls)) (entry_by_mark m (load_at (drop 1 ls) (length ms))))
    ∙ ap (λ (x : Option Load). (entry_by_mark k (load_at ls 0) ++ entries_by_marks ms (drop 1 ls)) ++ entry_by_mark m x) (next_load ls (length ms) ∙ ap (load_at ls) (add-one (length ms)))

pub entries_more : (old before after : List (Option Load)) (ms : List Mark) (ls : List (Option Load)) (i : ℕ) (d : Mark) → i < length ms → before ≡ old ++ entries_by_marks (take i ms) ls
    → after ≡ before ++ entry_by_mark (get_or ms i d) (load_at ls i) → after ≡ old ++ entries_by_marks (take (i + 1) ms) ls
entries_more old before after ms ls i d lt was more =
    let one : entry_by_mark (get_or ms i d) (load_at ls i) ≡ entry_by_mark (get_or ms i d) (load_at ls (length (take i ms))) = ap (λ (k : ℕ). entry_by_mark (get_or ms i d) (load_at ls k)) (sym (taken i ms lt)) in
    more ∙ ap (λ (xs : List (Option Load)). xs ++ entry_by_mark (get_or ms i d) (load_at ls i)) was ∙ append_assoc old (entries_by_marks (take i ms) ls) (entry_by_mark (get_or ms i d) (load_at ls i))
    ∙ ap (λ (xs : List (Option Load)). old ++ xs) (ap (λ (xs : List (Option Load)). entries_by_marks (take i ms) ls ++ xs) one ∙ sym (entry_behind (take i ms) (get_or ms i d) ls)
    ∙ ap (λ (ks : List Mark). entries_by_marks ks ls) (sym (take_more ms i d lt)))

-- WHAT IS KEPT

module _ {A : Type 0} (h : KeptLoad → Option A) (p : Ip6) where
  abbrev picked : List KeptLoad → List A
  picked ks = filter_map h (filter (is_kept_of p) ks)

  pub picked_more : (before after : List A) (ks : List KeptLoad) (i : ℕ) (d : KeptLoad) → i < length ks → before ≡ picked (take i ks) → after ≡ before ++ picked (get_or ks i d ∷ [])
      → after ≡ picked (take (i + 1) ks)
  picked_more before after ks i d lt was more = more ∙ ap (λ (xs : List A). xs ++ picked (get_or ks i d ∷ [])) was
      ∙ sym (filter_map-append h (filter (is_kept_of p) (take i ks)) (filter (is_kept_of p) (get_or ks i d ∷ [])))
      ∙ ap (filter_map h) (sym (filter-append (is_kept_of p) (take i ks) (get_or ks i d ∷ [])) ∙ ap (filter (is_kept_of p)) (sym (take_more ks i d lt)))

-- THE PLACE OF AN ADDRESS

module _ (who : Ip6) (xs : List Ip6) (i : ℕ) (d : Ip6) (lt : i < length xs) (so_far : put_by is_lower_ip6 who xs ≡ take i xs ++ put_by is_lower_ip6 who (drop i xs)) where
  left : drop i xs ≡ get_or xs i d ∷ drop (i + 1) xs
  left = drop-cons xs i d lt ∙ ap (λ (k : ℕ). get_or xs i d ∷ drop k xs) (sym (add-one i))

  pub place_more : is_lower_ip6 (get_or xs i d) who ≡ true → put_by is_lower_ip6 who xs ≡ take (i + 1) xs ++ put_by is_lower_ip6 who (drop (i + 1) xs)
  place_more lower = so_far ∙ ap (λ (ys : List Ip6). take i xs ++ put_by is_lower_ip6 who ys) left ∙ rw lower
      (sym (append_assoc (take i xs) (get_or xs i d ∷ []) (put_by is_lower_ip6 who (drop (i + 1) xs))) ∙ ap (λ (ys : List Ip6). ys ++ put_by is_lower_ip6 who (drop (i + 1) xs)) (sym (take_more xs i d lt)))

  pub place_here : is_lower_ip6 (get_or xs i d) who ≡ false → put_by is_lower_ip6 who xs ≡ take i xs ++ who ∷ drop i xs
  place_here higher = so_far ∙ ap (λ (ys : List Ip6). take i xs ++ ys) (ap (put_by is_lower_ip6 who) left ∙ rw higher (ap (λ (ys : List Ip6). who ∷ ys) (sym left)))

-- WHAT IS FOUND

module _ {A : Type 0} (f : A → Bool) (xs : List A) (i : ℕ) (d : A) (lt : i < length xs) (none : find f (take i xs) ≡ None) where
  pub found_not_yet : f (get_or xs i d) ≡ false → find f (take (i + 1) xs) ≡ None
  found_not_yet other = ap (find f) (take_more xs i d lt) ∙ find_before f (take i xs) (get_or xs i d) other ∙ none

  pub found_here : f (get_or xs i d) ≡ true → Some (get_or xs i d) ≡ find f xs
  found_here is = sym (ap (find f) (sym (take-append-drop i xs)) ∙ find_behind f (take i xs) (drop i xs) none ∙ ap (find f) (drop-cons xs i d lt) ∙ rw is refl)
