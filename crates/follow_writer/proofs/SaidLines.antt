-- Lines on sayings that are written one after the other.
use Rattle.follow_writer.proofs.Words.{Err, List, Ok, Result, SinkState, Writing, [], ap, arith, both_written, drop, ended_early, get_or, length, map, refl, subst, sym, take, take_rest, ℕ, ◌-◌, ◌<◌, ◌∷◌, ◌≡◌, ◌≤◌}

-- a slice without a first saying has none
pub no_sayings : {S : Type 0} (ss : List S) → length ss < 1 → ss ≡ []
no_sayings [] none = refl
no_sayings (s ∷ ss) none = absurd (omega (arith, none))

-- the first one and the others, as slices have them
first_saying : {S : Type 0} (ss : List S) (x : S) → 1 ≤ length ss → ss ≡ get_or ss 0 x ∷ take (length ss - 1) (drop 1 ss)
first_saying [] x some = absurd (omega (arith, some))
first_saying {S} (s ∷ ss) x some = ap (λ (rest : List S). s ∷ rest) (sym (take_rest (s ∷ ss) 1))

module _ {S N E : Type 0} (line : N → List ℕ) (by : S → N) (ss : List S) (x : S) (some : 1 ≤ length ss) where
  -- the line on the first one, and then those on the others
  pub sayings_written : (a b c : SinkState) (r : Result (Unit {0}) E) → Writing {E = E} a b (line (by (get_or ss 0 x)) ∷ []) (Ok tt)
      → Writing {E = E} b c (map line (map by (take (length ss - 1) (drop 1 ss)))) r → Writing {E = E} a c (map line (map by ss)) r
  sayings_written a b c r first others = subst (λ (all : List S). Writing {E = E} a c (map line (map by all)) r) (sym (first_saying ss x some))
      (both_written a b c (line (by (get_or ss 0 x)) ∷ []) (map line (map by (take (length ss - 1) (drop 1 ss)))) r first others)

  -- the sink failed at the first
  pub sayings_unwritten : (a b : SinkState) (e f : E) → Writing {E = E} a b (line (by (get_or ss 0 x)) ∷ []) (Err e) → Writing {E = E} a b (map line (map by ss)) (Err f)
  sayings_unwritten a b e f first = subst (λ (all : List S). Writing {E = E} a b (map line (map by all)) (Err f)) (sym (first_saying ss x some))
      (ended_early a b (line (by (get_or ss 0 x)) ∷ []) (map line (map by (take (length ss - 1) (drop 1 ss)))) e f first)
