-- What a record makes and what it says, if what it is given, what it releases, what it drops and what it ends have something in common.
use Rattle.theory_ends.proofs.Words.{AllByRecursion, Bool, Ends, Fate, Full, Goes, HeldRecord, IfSome, List, Load, Loads, Made, Mark, None, Option, Saying, Some, TopologyState, Way, [], answer_to, arrives_if, dropped_records, ended_records, entry_loads, false, flat_map, flat_map-cons, goes_by, if◌then◌else◌, is_late, is_some, length, load_at, load_given, load_goes_on, lost, made_loads, makes_reply, map, marks_by, mentions_at, released_records, said_of_ended, said_of_given, said_of_released, said_to_end, saying, sayings_of, sent, slice_get, subst, suc, sym, true, way_by_fate, zero, ℕ, ◌++◌, ◌∷◌}
use Rattle.teredo_node.specs.declared.fate.Fate.TheVariants as fate

-- of each of two lists
pub all_both : {A : Type 0} (P : A → Type 0) (xs ys : List A) → AllByRecursion P xs → AllByRecursion P ys → AllByRecursion P (xs ++ ys)
all_both P [] ys p q = q
all_both P (x ∷ xs) ys p q = (p.0, all_both P xs ys p.1 q)

-- of lists that are made one from each
pub all_flat : {A B : Type 0} (P : B → Type 0) (f : A → List B) (xs : List A) → AllByRecursion (λ (x : A). AllByRecursion P (f x)) xs → AllByRecursion P (flat_map f xs)
all_flat P f [] all = tt
all_flat P f (x ∷ xs) all = subst (AllByRecursion P) (sym (flat_map-cons f x xs)) (all_both P (f x) (flat_map f xs) all.0 (all_flat P f xs all.1))

module _ (Q : Load → Type 0) where
  -- so it is of a load, if there is one
  abbrev pub LoadHas : Option Load → Type 0
  LoadHas o = IfSome o Q

  pub load_has_at : (ls : List (Option Load)) → AllByRecursion LoadHas ls → (i : ℕ) → LoadHas (load_at ls i)
  load_has_at [] all i = tt
  load_has_at (l ∷ ls) all zero = all.0
  load_has_at (l ∷ ls) all (suc i) = load_has_at ls all.1 i

  picked_have : (ls : List (Option Load)) (numbers : List ℕ) → AllByRecursion (λ (i : ℕ). LoadHas (load_at ls i)) numbers → AllByRecursion LoadHas (map (load_at ls) numbers)
  picked_have ls [] all = tt
  picked_have ls (i ∷ more) all = (all.0, picked_have ls more all.1)

  entries_have : (made : List Made) (ls : List (Option Load)) → AllByRecursion LoadHas ls → AllByRecursion LoadHas (entry_loads made ls)
  entries_have [] ls all = tt
  entries_have (sent x ∷ made) [] all = (tt, entries_have made [] all)
  entries_have (sent x ∷ made) (l ∷ ls) all = (all.0, entries_have made ls all.1)
  entries_have (lost why dst bytes ∷ made) [] all = entries_have made [] all
  entries_have (lost why dst bytes ∷ made) (l ∷ ls) all = entries_have made ls all.1

  goes_on_has : (f : Fate) (l : Option Load) → LoadHas l → LoadHas (answer_to l) → AllByRecursion LoadHas (load_goes_on f l)
  goes_on_has fate.Sent l has answer = (has, tt)
  goes_on_has fate.SentCone l has answer = (has, tt)
  goes_on_has fate.SentSix l has answer = (has, tt)
  goes_on_has fate.Forward l has answer = (has, tt)
  goes_on_has fate.ForwardOrigin l has answer = (has, tt)
  goes_on_has fate.Six l has answer = (has, tt)
  goes_on_has fate.FromClient l has answer = (has, tt)
  goes_on_has fate.Echoed l has answer = (answer, tt)
  goes_on_has _ l has answer = tt

  -- what is said is of such loads
  abbrev pub SaidHave : List Saying → Type 0
  SaidHave ss = AllByRecursion (λ (s : Saying). Q s.load) ss

  said_both : (xs ys : List Saying) → SaidHave xs → SaidHave ys → SaidHave (xs ++ ys)
  said_both xs ys = all_both (λ (s : Saying). Q s.load) xs ys

  said_one : (w : Way) (l : Option Load) → LoadHas l → SaidHave (saying w l)
  said_one w None has = tt
  said_one w (Some l) has = (has, tt)

  said_if : (b : Bool) (ss : List Saying) → SaidHave ss → SaidHave (if b then ss else [])
  said_if true ss have = have
  said_if false ss have = tt

  said_released : (marks : List Mark) (ls : List (Option Load)) → AllByRecursion LoadHas ls → SaidHave (said_of_released marks ls)
  said_released [] [] all = tt
  said_released (m ∷ ms) [] all = tt
  said_released [] (l ∷ ls) all = tt
  said_released (m ∷ ms) (l ∷ ls) all = said_both (saying (Goes m) l) (said_of_released ms ls) (said_one (Goes m) l all.0) (said_released ms ls all.1)

  said_each : {A : Type 0} (way : A → Way) (load : A → Option Load) (xs : List A) → AllByRecursion (λ (x : A). LoadHas (load x)) xs
      → AllByRecursion (λ (x : A). SaidHave (saying (way x) (load x))) xs
  said_each way load [] all = tt
  said_each way load (x ∷ xs) all = (said_one (way x) (load x) all.0, said_each way load xs all.1)

  -- ALL OF A RECORD

  module _ (t : TopologyState) (H : List Full) (r : Full) (ls : Loads) where
    abbrev pub NumbersHave : List ℕ → Type 0
    NumbersHave numbers = AllByRecursion (λ (i : ℕ). LoadHas (load_at ls.records i)) numbers

    -- what it is given, releases, drops and ends
    pub record RecordHas : Type 0 where
      pub given : LoadHas (load_given ls r)
      pub answer : LoadHas (answer_to (load_given ls r))
      pub released : NumbersHave (released_records t H r)
      pub dropped : NumbersHave (dropped_records (mentions_at t H r.node) r)
      pub ended : AllByRecursion (λ (h : HeldRecord). LoadHas (load_at ls.records h.number)) (ended_records (mentions_at t H r.node) r)

    module _ (has : RecordHas) where
      abbrev released_loads : List (Option Load)
      released_loads = map (load_at ls.records) (released_records t H r)

      abbrev given_load : Option Load
      given_load = load_given ls r

      released_have : AllByRecursion LoadHas released_loads
      released_have = picked_have ls.records (released_records t H r) has.released

      -- what its entries carry
      pub made_have : AllByRecursion LoadHas (entry_loads r.made (made_loads t H ls r))
      made_have = entries_have r.made (made_loads t H ls r) (all_both LoadHas released_loads (load_goes_on r.fate given_load) released_have (goes_on_has r.fate given_load has.given has.answer))

      given_said : (mark : Option Mark) → SaidHave (said_of_given r given_load mark)
      given_said mark = said_both (saying (way_by_fate r.fate mark (is_some r.handed)) given_load) _ (said_one (way_by_fate r.fate mark (is_some r.handed)) given_load has.given)
          (said_if (makes_reply r.fate) (saying (goes_by mark) (answer_to given_load)) (said_one (goes_by mark) (answer_to given_load) has.answer))

      dropped_said : SaidHave (said_to_end ls (dropped_records (mentions_at t H r.node) r))
      dropped_said = all_flat (λ (s : Saying). Q s.load) (λ (i : ℕ). saying Ends (load_at ls.records i)) (dropped_records (mentions_at t H r.node) r)
          (said_each (λ (i : ℕ). Ends) (λ (i : ℕ). load_at ls.records i) (dropped_records (mentions_at t H r.node) r) has.dropped)

      ended_said : SaidHave (said_of_ended ls r (ended_records (mentions_at t H r.node) r))
      ended_said = all_flat (λ (s : Saying). Q s.load) (λ (h : HeldRecord). saying (arrives_if (is_late r h)) (load_at ls.records h.number)) (ended_records (mentions_at t H r.node) r)
          (said_each (λ (h : HeldRecord). arrives_if (is_late r h)) (λ (h : HeldRecord). load_at ls.records h.number) (ended_records (mentions_at t H r.node) r) has.ended)

      -- all that it says
      pub said_have : SaidHave (sayings_of t H ls r)
      said_have =
          let mark = slice_get (marks_by r) (length (released_records t H r)) in
          said_both (said_of_given r given_load mark) _ (given_said mark)
          (said_both (said_of_released (marks_by r) released_loads) _ (said_released (marks_by r) released_loads released_have)
          (said_both (said_to_end ls (dropped_records (mentions_at t H r.node) r)) _ dropped_said ended_said))
