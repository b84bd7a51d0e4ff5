-- The way of a client is whole: it ends at a NAT that is behind no other.
use Rattle.theory_ways.proofs.Words.{Behind, Bool, ClientNode, IsChained, Lab, List, None, Option, Some, TopologyState, [], ap, arith, cond, false, false≢true, is_inner, is_link, is_some, last_nat, length, list_all, nat_le, nat_tests, nats_from, outer_in, outer_nats_of, outermost, refl, subst, suc, sym, true, ℕ, ◌++◌, ◌<◌, ◌==◌, ◌∷◌, ◌≡◌, ◌≤◌}
use Rattle.theory_ways.proofs.chains.Chains.{link, links_of}
use Rattle.theory_ways.proofs.chains.Climbs.{Climb, one_more}

-- HOW MANY NATS ARE LEFT ABOVE

-- the pairs whose inner NAT is this one or comes after it
abbrev pub above : List Behind → ℕ → ℕ
above [] j = 0
above (b ∷ rest) j = cond (nat_le j b.inner) (suc (above rest j)) (above rest j)

-- one counts as much more, or more
one_count : (p q : Bool) (a b : ℕ) → (p ≡ true → q ≡ true) → a ≤ b → cond p (suc a) a ≤ cond q (suc b) b
one_count true true a b f le = omega (arith, le)
one_count true false a b f le = absurd (false≢true (f refl))
one_count false true a b f le = omega (arith, le)
one_count false false a b f le = le

one_less : (p q : Bool) (a b : ℕ) → (p ≡ true → q ≡ true) → suc a ≤ b → suc (cond p (suc a) a) ≤ cond q (suc b) b
one_less true true a b f le = omega (arith, le)
one_less true false a b f le = absurd (false≢true (f refl))
one_less false true a b f le = omega (arith, le)
one_less false false a b f le = le

-- what comes after NAT i comes after one before it
still_le : (j i x : ℕ) → j < i → nat_le i x ≡ true → nat_le j x ≡ true
still_le j i x less le = grind (arith, nat_tests)

-- fewer come after a later one
falls : (chain : List Behind) (j i : ℕ) → j < i → above chain i ≤ above chain j
falls [] j i less = omega arith
falls (b ∷ rest) j i less =
    one_count (nat_le i b.inner) (nat_le j b.inner) (above rest i) (above rest j) (still_le j i b.inner less) (falls rest j i less)

-- a NAT has fewer above it than one behind it
fewer : (chain : List Behind) (j i : ℕ) → j < i → outer_in chain j ≡ Some i → suc (above chain i) ≤ above chain j
fewer [] j i less at = absurd (false≢true (ap (λ (o : Option ℕ). is_some o) at))
fewer (b ∷ rest) j i less at = by (b.inner == j) refl at (λ e. fewer rest j i less e) where
  by : (x : Bool) → (b.inner == j) ≡ x → cond x (Some b.outer) (outer_in rest j) ≡ Some i
      → (outer_in rest j ≡ Some i → suc (above rest i) ≤ above rest j)
      → suc (cond (nat_le i b.inner) (suc (above rest i)) (above rest i)) ≤ cond (nat_le j b.inner) (suc (above rest j)) (above rest j)
  by false e f ih = one_less (nat_le i b.inner) (nat_le j b.inner) (above rest i) (above rest j) (still_le j i b.inner less) (ih f)
  by true e f ih =
      let inner : b.inner ≡ j = grind (arith, nat_tests) in
      let there : nat_le j b.inner ≡ true = subst (λ (k : ℕ). nat_le j k ≡ true) (sym inner) (itself j) in
      let beyond : nat_le i b.inner ≡ false = subst (λ (k : ℕ). nat_le i k ≡ false) (sym inner) (too_far j i less) in
      let few = falls rest j i less in
      at_head (nat_le i b.inner) (nat_le j b.inner) beyond there few
    where
      itself : (k : ℕ) → nat_le k k ≡ true
      itself k = grind (arith, nat_tests)

      too_far : (k l : ℕ) → k < l → nat_le l k ≡ false
      too_far k l h = grind (arith, nat_tests)

      at_head : (p q : Bool) → p ≡ false → q ≡ true → above rest i ≤ above rest j
          → suc (cond p (suc (above rest i)) (above rest i)) ≤ cond q (suc (above rest j)) (above rest j)
      at_head true q h g le = absurd (false≢true (sym h))
      at_head false true h g le = omega (arith, le)
      at_head false false h g le = absurd (false≢true g)

-- there are no more than all
all_above : (chain : List Behind) (j : ℕ) → above chain j ≤ length chain
all_above [] j = omega arith
all_above (b ∷ rest) j = by (nat_le j b.inner) (all_above rest j) where
  by : (x : Bool) → above rest j ≤ length rest → cond x (suc (above rest j)) (above rest j) ≤ suc (length rest)
  by true le = omega (arith, le)
  by false le = omega (arith, le)

-- THE WAY ENDS OUTSIDE

pub record Tops (chain : List Behind) (j : ℕ) (way : List ℕ) : Type 0 where
  pub climb : Climb chain j way (last_nat j way)
  pub outermost : is_inner chain (last_nat j way) ≡ false

module _ (t : TopologyState) (chain : List Behind) (all : list_all (is_link t chain) chain ≡ true) where
  tops : (at_most : List Behind) (j : ℕ) → above chain j ≤ length at_most → (o : Option ℕ) → outer_in chain j ≡ o → Tops chain j (nats_from chain at_most o)
  tops at_most j few None at = record { climb = refl; outermost = ap (λ (o : Option ℕ). is_some o) at }
  tops [] j few (Some i) at =
      let less = (link t chain j i all at).order in
      let more = fewer chain j i less at in
      absurd (let f : above chain j ≤ 0 = few in omega (arith, f, more))
  tops (b ∷ rest) j few (Some i) at =
      let less = (link t chain j i all at).order in
      let more = fewer chain j i less at in
      let f : above chain j ≤ suc (length rest) = few in
      let fewer_left : above chain i ≤ length rest = omega (arith, f, more) in
      let on = tops rest i fewer_left (outer_in chain i) refl in
      record { climb = (at, on.climb); outermost = on.outermost }

  pub whole_way : (j : ℕ) → Tops chain j (nats_from chain chain (outer_in chain j))
  whole_way j = tops chain j (all_above chain j) (outer_in chain j) refl

-- so is a client's
pub its_way : (lab : Lab) (c : ClientNode) → IsChained lab → Tops lab.chain c.nat (outer_nats_of lab c)
its_way lab c chained = whole_way lab.topology lab.chain (links_of lab.topology lab.chain chained) c.nat

-- up to its outermost NAT
pub its_climb : (lab : Lab) (c : ClientNode) → IsChained lab → Climb lab.chain c.nat (outer_nats_of lab c) (outermost lab c)
its_climb lab c chained = (its_way lab c chained).climb

-- NAT k is on a client's way, and these are the ones outside it
pub record IsPart (lab : Lab) (c : ClientNode) (way : List ℕ) (k : ℕ) : Type 0 where
  pub before : List ℕ
  pub up : Climb lab.chain c.nat before k
  pub top : ℕ
  pub on : Climb lab.chain k way top

-- the whole way
pub whole_part : (lab : Lab) (c : ClientNode) → IsChained lab → IsPart lab c (outer_nats_of lab c) c.nat
whole_part lab c chained = record { before = []; up = refl; top = outermost lab c; on = its_climb lab c chained }

-- without its next NAT
pub next_part : (lab : Lab) (c : ClientNode) (way : List ℕ) (k j : ℕ) → IsPart lab c (j ∷ way) k → IsPart lab c way j
next_part lab c way k j p = record {
  before = p.before ++ j ∷ [];
  up = one_more lab.chain c.nat p.before k j p.up p.on.0;
  top = p.top;
  on = p.on.1;
}
