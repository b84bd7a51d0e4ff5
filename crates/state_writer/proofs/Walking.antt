-- Walks past the NATs of a way, place by place.
use Rattle.state_writer.proofs.Words.{Behind, Ep, Err, LetOut, List, Millis, NatPasts, NodeFact, None, Ok, Option, Outward, Passing, Result, SinkState, Some, TopologyState, WritesFacts, Writing, [], ap, arith, at_node, drop, drop_all, drop_more, flat_map, flat_map-cons, get_or, get_or_from_slice_get, inl, inr, length, map, nat_set_up, nats_from, option_map, outer_in, passed_by, passed_facts, passing, passing_facts, passing_of, refl, same_Some, slice_get, slice_get_cases, slice_get_within, subst, suc, sym, walk, walked_on, way_out, zero, ℕ, ◌++◌, ◌+◌, ◌<◌, ◌∙◌, ◌∷◌, ◌≡◌, ◌≤◌, ◌⊎◌}
use Rattle.state_writer.proofs.Sequence.{facts_both, facts_broken_off}

-- ---- how long it is

nats_most : (chain at_most : List Behind) (o : Option ℕ) → length (nats_from chain at_most o) ≤ length at_most
nats_most chain at_most None = omega arith
nats_most chain [] (Some k) = omega arith
nats_most chain (b ∷ rest) (Some k) = let less = nats_most chain rest (outer_in chain k) in omega (arith, less)

way_most : (chain : List Behind) (k : ℕ) → length (way_out chain k) ≤ length chain + 1
way_most chain k = let less = nats_most chain chain (outer_in chain k) in omega (arith, less)

walk_most : (t : TopologyState) (h : NatPasts) (m : ℕ) (dst : Ep) (way : List ℕ) (from : Ep) → length (walk t h m dst way from) ≤ length way
walk_most t h m dst [] from = omega arith
walk_most t h m dst (k ∷ way) from = by (walk_most t h m dst way) (passed_by t h m k from dst) where
  by : ((ep : Ep) → length (walk t h m dst way ep) ≤ length way) → (o : Option ℕ) → length (walked_on t m k from dst (walk t h m dst way) o) ≤ length (k ∷ way)
  by rest None = omega arith
  by rest (Some port) = let less = rest (record { ip = (nat_set_up t k).external; port = port }) in omega (arith, less)

-- it has nothing past as many places as NATs are behind others, and one
pub walk_ends : (t : TopologyState) (h : NatPasts) (m : ℕ) (dst : Ep) (chain : List Behind) (k : ℕ) (from : Ep) (place : ℕ) → length chain < place
    → drop place (walk t h m dst (way_out chain k) from) ≡ []
walk_ends t h m dst chain k from place past =
    drop_all place (walk t h m dst (way_out chain k) from) (omega (arith, past, walk_most t h m dst (way_out chain k) from, way_most chain k))

-- ---- a place of it

none_there : {A B : Type 0} (x : A) → None ≡ Some x → B
none_there x e = absurd cc

-- all that it shows was let out at its moment
pub walk_moment : (t : TopologyState) (h : NatPasts) (m : ℕ) (dst : Ep) (way : List ℕ) (from : Ep) (place : ℕ) (p : Passing)
    → slice_get (walk t h m dst way from) place ≡ Some p → p.datagram.moment ≡ record { 0 = m }
walk_moment t h m dst [] from place p is = none_there p is
walk_moment t h m dst (k ∷ way) from place p is = by (walk_moment t h m dst way) (passed_by t h m k from dst) place is where
  by : ((ep : Ep) (i : ℕ) (x : Passing) → slice_get (walk t h m dst way ep) i ≡ Some x → x.datagram.moment ≡ record { 0 = m })
      → (o : Option ℕ) (i : ℕ) → slice_get (walked_on t m k from dst (walk t h m dst way) o) i ≡ Some p → p.datagram.moment ≡ record { 0 = m }
  by rest None i e = none_there p e
  by rest (Some port) zero e = ap (λ (x : Passing). x.datagram.moment) (sym (same_Some _ p e))
  by rest (Some port) (suc i) e = rest (record { ip = (nat_set_up t k).external; port = port }) i p e

-- a datagram of that moment is the same
pub at_moment : (e : Outward) (now : Millis) → e.moment ≡ now → record e { moment = now } ≡ e
at_moment e now same = ap (λ (x : Millis). record e { moment = x }) (sym same)

module _ (t : TopologyState) (ps : List Passing) (place : ℕ) where
  pub none_further : slice_get ps place ≡ None → drop place ps ≡ []
  none_further none = by (slice_get_cases ps place).1 where
    by : ((x : Passing) × (place < length ps) × (slice_get ps place ≡ Some x) × (get_or ps place x ≡ x)) ⊎ ((length ps ≤ place) × (slice_get ps place ≡ None)) → drop place ps ≡ []
    by (inl (x, within, some, same)) = none_there x (sym none ∙ some)
    by (inr (past, same)) = drop_all place ps past

  pub one_further : (p : Passing) → slice_get ps place ≡ Some p → flat_map (passing_facts t) (drop place ps) ≡ passing_facts t p ++ flat_map (passing_facts t) (drop (place + 1) ps)
  one_further p is =
      let within : place < length ps = slice_get_within ps place p is in
      let here : get_or ps place p ≡ p = get_or_from_slice_get ps place p p is in
      ap (flat_map (passing_facts t)) (drop_more ps place p within ∙ ap (λ (x : Passing). x ∷ drop (place + 1) ps) here)
      ∙ flat_map-cons (passing_facts t) p (drop (place + 1) ps)

-- ---- the lines on a place of it, and on the next ones

-- This was found there: a datagram that was let out at the moment of the walk.
pub record FoundAt (m : ℕ) (ps : List Passing) (place : ℕ) (x : LetOut) (now : Millis) : Type 0 where
  pub here : slice_get ps place ≡ Some (passing_of x)
  pub same : now.0 ≡ m
  pub at : x.datagram.moment ≡ record { 0 = m }

module _ {t u : TopologyState} {chain other : List Behind} {m : ℕ} {now : Millis} (h : NatPasts) (k : ℕ) (dst from : Ep) (place : ℕ) (o : Option LetOut) (topology : u ≡ t) (behind : other ≡ chain) (same : now.0 ≡ m)
    (told : option_map passing_of o ≡ slice_get (walk u h now.0 dst (way_out other k) from) place) where
  -- what an equal table tells of a place is what the walk has there
  pub told_there : option_map passing_of o ≡ slice_get (walk t h m dst (way_out chain k) from) place
  told_there = told ∙ ap (λ (v : TopologyState). slice_get (walk v h now.0 dst (way_out other k) from) place) topology
      ∙ ap (λ (ch : List Behind). slice_get (walk t h now.0 dst (way_out ch k) from) place) behind
      ∙ ap (λ (n : ℕ). slice_get (walk t h n dst (way_out chain k) from) place) same

  -- and was found there
  pub is_found : {x : LetOut} → o ≡ Some x → FoundAt m (walk t h m dst (way_out chain k) from) place x now
  is_found {x} is = record { here = there; same = same; at = walk_moment t h m dst (way_out chain k) from place (passing_of x) there } where
    there : slice_get (walk t h m dst (way_out chain k) from) place ≡ Some (passing_of x)
    there = sym told_there ∙ ap (option_map passing_of) is

module _ (t : TopologyState) (i : Option ℕ) (m : ℕ) (ps : List Passing) (place : ℕ) (x : LetOut) (now : Millis) where
  -- the lines on what was found there
  abbrev pub OnPlace : {E : Type 0} → SinkState → SinkState → Result (Unit {0}) E → Type 0
  OnPlace {E} a b r = WritesFacts {E = E} t i now.0 a b (map (at_node x.nat) (passed_facts (nat_set_up t x.nat) (record x.datagram { moment = now }))) r

  module _ (found : FoundAt m ps place x now) where
    on_place : {E : Type 0} (a b : SinkState) (r : Result (Unit {0}) E) → OnPlace {E = E} a b r → WritesFacts {E = E} t i m a b (passing_facts t (passing_of x)) r
    on_place {E} a b r w =
        let e : record x.datagram { moment = now } ≡ x.datagram = at_moment x.datagram now (found.at ∙ sym (ap (λ (k : ℕ). record { 0 = k }) found.same)) in
        subst (λ (k : ℕ). WritesFacts {E = E} t i k a b (passing_facts t (passing_of x)) r) found.same
        (subst (λ (y : Outward). WritesFacts {E = E} t i now.0 a b (map (at_node x.nat) (passed_facts (nat_set_up t x.nat) y)) r) e w)

    -- the sink failed there
    pub place_unwritten : {E : Type 0} (a b : SinkState) (e f : E) → OnPlace {E = E} a b (Err e) → WritesFacts {E = E} t i m a b (flat_map (passing_facts t) (drop place ps)) (Err f)
    place_unwritten {E} a b e f w =
        subst (λ (fs : List NodeFact). WritesFacts {E = E} t i m a b fs (Err f)) (sym (one_further t ps place (passing_of x) found.here))
        (facts_broken_off t i m a b b (passing_facts t (passing_of x)) (flat_map (passing_facts t) (drop (place + 1) ps)) e f (on_place a b (Err e) w))

    -- and then those on the next ones
    pub places_written : {E : Type 0} (a b c : SinkState) (r : Result (Unit {0}) E) → OnPlace {E = E} a b (Ok tt)
        → WritesFacts {E = E} t i m b c (flat_map (passing_facts t) (drop (place + 1) ps)) r → WritesFacts {E = E} t i m a c (flat_map (passing_facts t) (drop place ps)) r
    places_written {E} a b c r w others =
        subst (λ (fs : List NodeFact). WritesFacts {E = E} t i m a c fs r) (sym (one_further t ps place (passing_of x) found.here))
        (facts_both t i m a b c (passing_facts t (passing_of x)) (flat_map (passing_facts t) (drop (place + 1) ps)) r (on_place a b (Ok tt) w) others)
