-- Each arrival that a record tells of is one of what it was given, or of what was held and is handed over now.
use Rattle.theory_loads.proofs.Words.{AllByRecursion, Arrives, Bool, Ends, Fate, Full, Goes, HeldRecord, List, Load, Loads, Mark, Mention, None, Option, Saying, Some, TopologyState, Way, [], all_joined, answer_to, ap, arrives_if, dropped_records, ended_records, ends_holding, entry_peer, false, goes_by, hands_over_held, held_for, if◌then◌else◌, inl, inr, is_late, is_same_source, is_some, length, load_at, load_given, makes_reply, map, marks_by, mentions_at, refl, released_records, said_of_ended, said_of_given, said_of_released, said_to_end, saying, sayings_of, slice_get, source_of_entry, sym, true, way_by_fate, ℕ, ◌&&◌, ◌++◌, ◌∙◌, ◌∷◌, ◌≡◌, ◌⊎◌}
use Rattle.teredo_node.specs.declared.fate.Fate.TheVariants as fate
use Rattle.theory_loads.proofs.Fates.{is_native_fate}

module _ (Out : Load → Type 0) where
  -- if it says that a load arrives, this gets out
  abbrev pub IsTrueOf : Saying → Type 0
  IsTrueOf s = s.way ≡ Arrives → Out s.load

  abbrev AreTrue : List Saying → Type 0
  AreTrue ss = AllByRecursion IsTrueOf ss

  one_said : (w : Way) (l : Option Load) → (w ≡ Arrives → (k : Load) → l ≡ Some k → Out k) → AreTrue (saying w l)
  one_said w None out = tt
  one_said w (Some k) out = ((λ is. out is k refl), tt)

  never : (w : Way) (l : Option Load) → (w ≡ Arrives → ⊥) → AreTrue (saying w l)
  never w l not_so = one_said w l (λ is k at. absurd (not_so is))

  goes_on : (m : Option Mark) → goes_by m ≡ Arrives → ⊥
  goes_on None is = cc is
  goes_on (Some m) is = cc is

  -- WHAT IT WAS GIVEN

  handed_only : (b : Bool) → arrives_if b ≡ Arrives → b ≡ true
  handed_only true is = refl
  handed_only false is = absurd (cc is)

  arrives_by : (f : Fate) (m : Option Mark) (b : Bool) → way_by_fate f m b ≡ Arrives → (is_native_fate f ≡ true) ⊎ (b ≡ true)
  arrives_by fate.Sent m b is = absurd (goes_on m is)
  arrives_by fate.SentCone m b is = absurd (goes_on m is)
  arrives_by fate.SentSix m b is = absurd (goes_on m is)
  arrives_by fate.Forward m b is = absurd (goes_on m is)
  arrives_by fate.ForwardOrigin m b is = absurd (goes_on m is)
  arrives_by fate.Six m b is = absurd (goes_on m is)
  arrives_by fate.FromClient m b is = absurd (goes_on m is)
  arrives_by fate.Queued m b is = absurd (cc is)
  arrives_by fate.HeldTest m b is = absurd (cc is)
  arrives_by fate.Held m b is = absurd (cc is)
  arrives_by fate.Kept m b is = inl refl
  arrives_by fate.Echoed m b is = inl refl
  arrives_by _ m b is = inr (handed_only b is)

  module _ (r : Full) (l : Option Load) (m : Option Mark) where
    pub given_true : (is_native_fate r.fate ≡ true → (k : Load) → l ≡ Some k → Out k) → (is_some r.handed ≡ true → (k : Load) → l ≡ Some k → Out k)
        → AreTrue (said_of_given r l m)
    given_true native handed = all_joined IsTrueOf (saying (way_by_fate r.fate m (is_some r.handed)) l) (if makes_reply r.fate then saying (goes_by m) (answer_to l) else [])
        (one_said (way_by_fate r.fate m (is_some r.handed)) l (λ is. by (arrives_by r.fate m (is_some r.handed) is))) (reply (makes_reply r.fate)) where
          by : (is_native_fate r.fate ≡ true) ⊎ (is_some r.handed ≡ true) → (k : Load) → l ≡ Some k → Out k
          by (inl is) = native is
          by (inr is) = handed is

          reply : (b : Bool) → AreTrue (if b then saying (goes_by m) (answer_to l) else [])
          reply true = never (goes_by m) (answer_to l) (goes_on m)
          reply false = tt

  -- WHAT WAITED

  marked_no : (m : Mark) → Goes m ≡ Arrives → ⊥
  marked_no m is = cc is

  ended_no : Ends ≡ Arrives → ⊥
  ended_no is = cc is

  released_true : (ms : List Mark) (ls : List (Option Load)) → AreTrue (said_of_released ms ls)
  released_true ms [] = tt
  released_true [] (l ∷ ls) = tt
  released_true (m ∷ ms) (l ∷ ls) = all_joined IsTrueOf (saying (Goes m) l) (said_of_released ms ls) (never (Goes m) l (marked_no m)) (released_true ms ls)

  dropped_true : (L : Loads) (numbers : List ℕ) → AreTrue (said_to_end L numbers)
  dropped_true L [] = tt
  dropped_true L (i ∷ numbers) = all_joined IsTrueOf (saying Ends (load_at L.records i)) (said_to_end L numbers) (never Ends (load_at L.records i) ended_no) (dropped_true L numbers)

  -- WHAT WAS HELD

  module _ (L : Loads) (r : Full) where
    -- if it is handed over now, its load gets out
    abbrev pub GetsOutLate : HeldRecord → Type 0
    GetsOutLate h = is_late r h ≡ true → (k : Load) → load_at L.records h.number ≡ Some k → Out k

    ended_true : (hs : List HeldRecord) → AllByRecursion GetsOutLate hs → AreTrue (said_of_ended L r hs)
    ended_true [] all = tt
    ended_true (h ∷ hs) all = all_joined IsTrueOf (saying (arrives_if (is_late r h)) (load_at L.records h.number)) (said_of_ended L r hs)
        (one_said (arrives_if (is_late r h)) (load_at L.records h.number) (λ is. all.0 (handed_only (is_late r h) is))) (ended_true hs all.1)

    none_late : hands_over_held r.fate ≡ false → (hs : List HeldRecord) → AllByRecursion GetsOutLate hs
    none_late is [] = tt
    none_late is (h ∷ hs) = (
      (λ late k at. let e : false ≡ true = sym (ap (λ (b : Bool). b && is_same_source (source_of_entry r.entry) h.from) is) ∙ late in absurd (cc e)),
      none_late is hs,
    )

    by_rule2 : (f : Fate) → hands_over_held f ≡ true → ends_holding f ≡ true
    by_rule2 fate.Rule2 is = refl
    by_rule2 _ is = absurd (cc is)

    -- ALL OF A RECORD

    module _ (j : List Mention) where
      pub held_true : (hands_over_held r.fate ≡ true → AllByRecursion GetsOutLate (held_for j r.moment (entry_peer r.entry))) → AreTrue (said_of_ended L r (ended_records j r))
      held_true late = by (hands_over_held r.fate) refl where
        by : (b : Bool) → hands_over_held r.fate ≡ b → AreTrue (said_of_ended L r (ended_records j r))
        by false is = ended_true (ended_records j r) (none_late is (ended_records j r))
        by true is = let e = by_rule2 r.fate is in rw e (ended_true (held_for j r.moment (entry_peer r.entry)) (late is))

  pub all_true : (t : TopologyState) (H : List Full) (L : Loads) (r : Full) → ((m : Option Mark) → AreTrue (said_of_given r (load_given L r) m))
      → AreTrue (said_of_ended L r (ended_records (mentions_at t H r.node) r)) → AreTrue (sayings_of t H L r)
  all_true t H L r given held =
      let numbers = released_records t H r in
      let j = mentions_at t H r.node in
      let m = slice_get (marks_by r) (length numbers) in
      let waited = said_of_released (marks_by r) (map (load_at L.records) numbers) in
      let dropped = said_to_end L (dropped_records j r) in
      let ended = said_of_ended L r (ended_records j r) in
      all_joined IsTrueOf (said_of_given r (load_given L r) m) (waited ++ (dropped ++ ended)) (given m)
      (all_joined IsTrueOf waited (dropped ++ ended) (released_true (marks_by r) (map (load_at L.records) numbers))
      (all_joined IsTrueOf dropped ended (dropped_true L (dropped_records j r)) held))
