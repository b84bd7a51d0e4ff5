-- The number of an end that says that a load arrived is that of the first record that said so.
use Rattle.theory_ends.proofs.Words.{AllByRecursion, ArrivedIsFirst, Arrives, Bool, Contains, Ends, Full, Goes, IsFirstArrival, List, Load, None, NumberedSaying, OthersNeverArrive, Saying, Some, TopologyState, Waits, Way, [], all_sayings, ap, arith, arrival, false, filter, filter-append, first_number, holding_node, is_arrival, is_arrival_of, is_said_of, last_number_of, length, loads, map, open_entry, refl, same_load, saying_by, sayings_of, suc, sym, true, waiting_node, zero, ℕ, ◌++◌, ◌∙◌, ◌∷◌, ◌≡◌}
use Rattle.loads.specs.declared.way.Way.TheVariants.{Held}
use Rattle.theory_ends.proofs.Handed.{same_is}
use Rattle.theory_ends.proofs.AtEnd.{arrived_part, no_arrival_part}

-- by this the load arrives
arrival_is : (w : Way) → is_arrival w ≡ true → w ≡ Arrives
arrival_is (Goes m) is = absurd (cc is)
arrival_is Waits is = absurd (cc is)
arrival_is Held is = absurd (cc is)
arrival_is Arrives is = refl
arrival_is Ends is = absurd (cc is)

pub one_behind : {A : Type 0} (x y : A) (xs : List A) → Contains xs x → Contains (y ∷ xs) x
one_behind x y xs there = let lt = there.1 in (suc there.0, omega (arith, lt), there.2)

-- where none is found there is none
none_arrives : (l : Load) (ts : List NumberedSaying) → filter (is_arrival_of l) ts ≡ [] → AllByRecursion (λ (s : NumberedSaying). is_arrival_of l s ≡ false) ts
none_arrives l [] none = tt
none_arrives l (s ∷ ts) none = by (none_arrives l ts) (is_arrival_of l s) refl where
  by : (filter (is_arrival_of l) ts ≡ [] → AllByRecursion (λ (x : NumberedSaying). is_arrival_of l x ≡ false) ts) → (b : Bool) → is_arrival_of l s ≡ b
      → (is_arrival_of l s ≡ false) × AllByRecursion (λ (x : NumberedSaying). is_arrival_of l x ≡ false) ts
  by more true is = let e : s ∷ filter (is_arrival_of l) ts ≡ [] = rw is at none in absurd (cc e)
  by more false is = (is, more (rw is at none))

module _ (l : Load) (i : ℕ) (r : Full) where
  -- of what one record says, the first arrival has its number, and is among that
  record OfIt (ss : List Saying) (j : ℕ) : Type 0 where
    number : i ≡ j
    there : Contains ss (arrival l)

  of_it : (ss : List Saying) (j : ℕ) → first_number (filter (is_arrival_of l) (map (saying_by i r) ss)) ≡ Some j → OfIt ss j
  of_it [] j is = absurd (cc is)
  of_it (s ∷ ss) j is = by (of_it ss j) (same_load l s.load) refl (is_arrival s.way) refl where
    its : same_load l s.load ≡ true → is_arrival s.way ≡ true → s ≡ arrival l
    its same arrives = rw (sym (same_is l s.load same), sym (arrival_is s.way arrives)) refl

    by : (first_number (filter (is_arrival_of l) (map (saying_by i r) ss)) ≡ Some j → OfIt ss j) → (b : Bool) → same_load l s.load ≡ b → (c : Bool) → is_arrival s.way ≡ c → OfIt (s ∷ ss) j
    by more true same true arrives = let e : Some i ≡ Some j = rw (same, arrives) at is in record { number = cc e; there = (zero, omega arith, its same arrives) }
    by more true same false arrives = let so = more (rw (same, arrives) at is) in record { number = so.number; there = one_behind (arrival l) s ss so.there }
    by more false same c arrives = let so = more (rw same at is) in record { number = so.number; there = one_behind (arrival l) s ss so.there }

module _ (t : TopologyState) (l : Load) (j : ℕ) where
  first_of : (H : List Full) → first_number (filter (is_arrival_of l) (all_sayings t H)) ≡ Some j → IsFirstArrival t H l j
  first_of [] is = absurd (cc is)
  first_of (r ∷ H) is = by (first_of H) (filter (is_arrival_of l) (all_sayings t H)) refl where
    its : List NumberedSaying
    its = map (saying_by (length H) r) (sayings_of t H (loads t H) r)

    both : first_number (filter (is_arrival_of l) (all_sayings t H) ++ filter (is_arrival_of l) its) ≡ Some j
    both = ap first_number (sym (filter-append (is_arrival_of l) (all_sayings t H) its)) ∙ is

    by : (first_number (filter (is_arrival_of l) (all_sayings t H)) ≡ Some j → IsFirstArrival t H l j) → (before : List NumberedSaying) → filter (is_arrival_of l) (all_sayings t H) ≡ before
        → IsFirstArrival t (r ∷ H) l j
    by more [] none = let so = of_it l (length H) r (sayings_of t H (loads t H) r) j (rw none at both) in record {
      later = [];
      by = r;
      earlier = H;
      split = refl;
      number = so.number;
      says = so.there;
      not_before = none_arrives l (all_sayings t H) none;
    }
    by more (s ∷ ss) some = let e : Some s.number ≡ Some j = rw some at both in let was = more (ap first_number some ∙ e) in record {
      later = r ∷ was.later;
      by = was.by;
      earlier = was.earlier;
      split = ap (λ (xs : List Full). r ∷ xs) was.split;
      number = was.number;
      says = was.says;
      not_before = was.not_before;
    }

pub arrived_is_first : ArrivedIsFirst
arrived_is_first t H l j is = first_of t l j H
    (arrived_part (first_number (filter (is_arrival_of l) (all_sayings t H))) (waiting_node t H (loads t H) l) (holding_node t H (loads t H) l) (open_entry H l 0 (loads t H).wire)
    (last_number_of (filter (is_said_of l) (all_sayings t H))) j is)

none_first : (ss : List NumberedSaying) → first_number ss ≡ None → ss ≡ []
none_first [] none = refl
none_first (s ∷ ss) none = absurd (cc none)

pub others_never_arrive : OthersNeverArrive
others_never_arrive t H l not = none_arrives l (all_sayings t H) (none_first (filter (is_arrival_of l) (all_sayings t H))
    (no_arrival_part (first_number (filter (is_arrival_of l) (all_sayings t H))) (waiting_node t H (loads t H) l) (holding_node t H (loads t H) l) (open_entry H l 0 (loads t H).wire)
    (last_number_of (filter (is_said_of l) (all_sayings t H))) not))
