-- The number of an end that says that a load is lost is that of the last record that said something of it.
use Rattle.theory_ends.proofs.Words.{AllByRecursion, Bool, Contains, Full, IsLastSaying, List, Load, LostIsLast, NumberedSaying, Saying, Some, TopologyState, [], all_sayings, ap, append-nil, arith, false, filter, filter-append, first_number, is_said_of, last_number_of, length, loads, map, refl, reverse, reverse-append, reverse-reverse, reverse_onto, said_of_load, said_so, same_load, saying_by, sayings_of, subst, sym, true, zero, ℕ, ◌++◌, ◌∙◌, ◌∷◌, ◌≡◌}
use Rattle.theory_ends.proofs.Carried.{all_both}
use Rattle.theory_ends.proofs.Handed.{all_weaker, same_is}
use Rattle.theory_ends.proofs.First.{one_behind}
use Rattle.theory_ends.proofs.Lost.{parts}

all_turned : {A : Type 0} (P : A → Type 0) (xs : List A) → AllByRecursion P xs → AllByRecursion P (reverse xs)
all_turned P [] all = tt
all_turned P (x ∷ xs) all = subst (AllByRecursion P) (sym (reverse_onto xs x [])) (all_both P (reverse xs) (x ∷ []) (all_turned P xs all.1) (all.0, tt))

module _ (l : Load) (i : ℕ) (r : Full) where
  -- it is said of the load, by the record of that number, among this
  record IsOfIt (ss : List Saying) (s : NumberedSaying) : Type 0 where
    number : s.number ≡ i
    of_load : l ≡ s.saying.load
    there : Contains ss s.saying

  one_more_said : (s : Saying) (ss : List Saying) (x : NumberedSaying) → IsOfIt ss x → IsOfIt (s ∷ ss) x
  one_more_said s ss x is = record { number = is.number; of_load = is.of_load; there = one_behind x.saying s ss is.there }

  all_of_it : (ss : List Saying) → AllByRecursion (IsOfIt ss) (filter (is_said_of l) (map (saying_by i r) ss))
  all_of_it [] = tt
  all_of_it (s ∷ ss) = by (all_weaker (IsOfIt ss) (IsOfIt (s ∷ ss)) (one_more_said s ss) (filter (is_said_of l) (map (saying_by i r) ss)) (all_of_it ss)) (same_load l s.load) refl where
    by : AllByRecursion (IsOfIt (s ∷ ss)) (filter (is_said_of l) (map (saying_by i r) ss)) → (b : Bool) → same_load l s.load ≡ b
        → AllByRecursion (IsOfIt (s ∷ ss)) (filter (is_said_of l) (map (saying_by i r) (s ∷ ss)))
    by more true is = rw is (record { number = refl; of_load = same_is l s.load is; there = (zero, omega arith, refl) }, more)
    by more false is = rw is more

module _ (t : TopologyState) (l : Load) (j : ℕ) where
  last_of : (H : List Full) → last_number_of (said_of_load t H l) ≡ Some j → IsLastSaying t H l j
  last_of [] is = absurd (cc is)
  last_of (r ∷ H) is = by (last_of H) (reverse new) refl where
    ss : List Saying
    ss = sayings_of t H (loads t H) r

    new : List NumberedSaying
    new = filter (is_said_of l) (map (saying_by (length H) r) ss)

    both : said_of_load t (r ∷ H) l ≡ said_of_load t H l ++ new
    both = filter-append (is_said_of l) (all_sayings t H) (map (saying_by (length H) r) ss)

    turned : first_number (reverse new ++ reverse (said_of_load t H l)) ≡ Some j
    turned = ap first_number (sym (reverse-append (said_of_load t H l) new)) ∙ ap (λ (xs : List NumberedSaying). first_number (reverse xs)) (sym both) ∙ is

    none_new : reverse new ≡ [] → said_of_load t (r ∷ H) l ≡ said_of_load t H l
    none_new none = both ∙ ap (λ (xs : List NumberedSaying). said_of_load t H l ++ xs) (sym (reverse-reverse new) ∙ ap reverse none) ∙ append-nil (said_of_load t H l)

    by : (last_number_of (said_of_load t H l) ≡ Some j → IsLastSaying t H l j) → (xs : List NumberedSaying) → reverse new ≡ xs → IsLastSaying t (r ∷ H) l j
    by more [] none = let was = more (rw none at turned) in record {
      later = r ∷ was.later;
      by = was.by;
      earlier = was.earlier;
      split = ap (λ (xs : List Full). r ∷ xs) was.split;
      number = was.number;
      way = was.way;
      says = was.says;
      not_after = none_new none ∙ was.not_after;
    }
    by more (s ∷ rest) some =
        let e : Some s.number ≡ Some j = rw some at turned in
        let its = (subst (AllByRecursion (IsOfIt l (length H) r ss)) some (all_turned (IsOfIt l (length H) r ss) new (all_of_it l (length H) r ss))).0 in
        let so : s.saying ≡ said_so s.saying.way l = rw its.of_load refl in
        record {
          later = [];
          by = r;
          earlier = H;
          split = refl;
          number = sym its.number ∙ cc e;
          way = s.saying.way;
          says = subst (Contains ss) so its.there;
          not_after = refl;
        }

pub lost_is_last : LostIsLast
lost_is_last t H l j is = last_of t l j H (parts t H l j is).last_said
