-- Which NAT is before which on a client's way, and what a NAT of it was asked about in a record of the client.
use Rattle.theory_ways.proofs.Words.{Behind, Bool, ClientNode, Has, IsChained, Lab, List, Out, Outward, Passing, Some, TopologyState, [], all_has, ap, arith, cond, false, inl, inr, is_link, list_all, nat_tests, out_or, outer_in, outs_at, refl, same_Some, subst, sym, true, ℕ, ◌==◌, ◌∙◌, ◌∷◌, ◌≡◌, ◌≤◌}
use Rattle.theory_ways.proofs.chains.Climbs.{Climb}
use Rattle.theory_ways.proofs.chains.Chains.{link, links_of}
use Rattle.theory_ways.proofs.outwards.Asks.{left_at}
use Rattle.theory_ways.proofs.outwards.Passed.{Comes, first, next, AllCome}

-- ON A WAY

module _ (t : TopologyState) (chain : List Behind) (all : list_all (is_link t chain) chain ≡ true) where
  -- later NATs are further out
  rises : (j : ℕ) (way : List ℕ) (k : ℕ) → Climb chain j way k → j ≤ k
  rises j [] k same = subst (λ (x : ℕ). j ≤ x) same (omega arith)
  rises j (i ∷ way) k c = let less = (link t chain j i all c.0).order in let on = rises i way k c.1 in omega (arith, less, on)

  -- no NAT further out is before one that is
  not_back : (z : ℕ) (way : List ℕ) (b : ℕ) → Climb chain z way b → outer_in chain b ≡ Some z → ⊥
  not_back z way b c at = let up = rises z way b c in let less = (link t chain b z all at).order in absurd (omega (arith, up, less))

  -- a NAT is outside one NAT of a way alone
  pub one_before : (j : ℕ) (w v : List ℕ) {a b z : ℕ} → Climb chain j w a → Climb chain j v b → outer_in chain a ≡ Some z → outer_in chain b ≡ Some z → a ≡ b
  one_before j [] [] at bt az bz = sym at ∙ bt
  one_before j [] (i ∷ v) {b} {z} at bt az bz =
      let same : i ≡ z = same_Some i z (sym bt.0 ∙ ap (outer_in chain) at ∙ az) in
      absurd (not_back z v b (subst (λ (x : ℕ). Climb chain x v b) same bt.1) bz)
  one_before j (i ∷ w) [] {a} {z} at bt az bz =
      let same : i ≡ z = same_Some i z (sym at.0 ∙ ap (outer_in chain) bt ∙ bz) in
      absurd (not_back z w a (subst (λ (x : ℕ). Climb chain x w a) same at.1) az)
  one_before j (i ∷ w) (k ∷ v) {a} {b} {z} at bt az bz =
      let same : k ≡ i = same_Some k i (sym bt.0 ∙ at.0) in
      one_before i w v at.1 (subst (λ (x : ℕ). Climb chain x v b) same bt.1) az bz

-- WHAT A NAT LET OUT

-- it is one of those that passed
pub record IsPassed (k : ℕ) (passed : List Passing) (d : Outward) : Type 0 where
  pub passing : Passing
  pub there : Has passed passing
  pub nat : passing.nat ≡ k
  pub is : passing.datagram ≡ d

-- or of those and one more
later : (k : ℕ) (p : Passing) (ps : List Passing) (d : Outward) → IsPassed k ps d → IsPassed k (p ∷ ps) d
later k p ps d x = record { passing = x.passing; there = inr x.there; nat = x.nat; is = x.is }

-- what was let out passed
pub passed_there : (k : ℕ) (passed : List Passing) (d : Outward) → Has (outs_at k passed) (Out d) → IsPassed k passed d
passed_there k [] d h = absurd h
passed_there k (p ∷ ps) d h = by (p.nat == k) refl h (λ g. later k p ps d (passed_there k ps d g)) where
  by : (b : Bool) → (p.nat == k) ≡ b → Has (cond b (Out p.datagram ∷ outs_at k ps) (outs_at k ps)) (Out d)
      → (Has (outs_at k ps) (Out d) → IsPassed k (p ∷ ps) d) → IsPassed k (p ∷ ps) d
  by true e (inl same) ih = record { passing = p; there = inl refl; nat = grind (arith, nat_tests); is = ap (out_or d) same }
  by true e (inr on) ih = ih on
  by false e g ih = ih g

-- and what passed was let out
pub there_passed : (k : ℕ) (passed : List Passing) (p : Passing) → Has passed p → p.nat ≡ k → Has (outs_at k passed) (Out p.datagram)
there_passed k [] p h at = absurd h
there_passed k (q ∷ qs) p h at = by (q.nat == k) refl h (λ g. there_passed k qs p g at) where
  differs : q.nat ≡ k → (q.nat == k) ≡ false → ⊥
  differs e f = grind (arith, nat_tests)

  by : (b : Bool) → (q.nat == k) ≡ b → Has (q ∷ qs) p → (Has qs p → Has (outs_at k qs) (Out p.datagram))
      → Has (cond b (Out q.datagram ∷ outs_at k qs) (outs_at k qs)) (Out p.datagram)
  by true e (inl same) ih = inl (ap (λ (x : Passing). Out x.datagram) same)
  by true e (inr on) ih = inr (ih on)
  by false e (inl same) ih = absurd (differs (ap (λ (x : Passing). x.nat) same ∙ at) e)
  by false e (inr on) ih = ih on

-- IN A RECORD OF THE CLIENT

-- the NAT before it let a datagram to the same destination out, from where this one came
pub record IsFrom (lab : Lab) (k : ℕ) (passed : List Passing) (d : Outward) : Type 0 where
  pub before : Outward
  pub there : Has (outs_at k passed) (Out before)
  pub inside : d.inside ≡ left_at lab k before
  pub to : before.dst ≡ d.dst

module _ (lab : Lab) (c : ClientNode) (chained : IsChained lab) (passed : List Passing) (all : AllCome lab c passed passed) where
  abbrev links : list_all (is_link lab.topology lab.chain) lab.chain ≡ true
  links = links_of lab.topology lab.chain chained

  -- the next NAT was asked about the client itself
  pub at_next : (d : Outward) → Has (outs_at c.nat passed) (Out d) → d.inside ≡ c.inside
  at_next d h =
      let x = passed_there c.nat passed d h in
      ap (λ (z : Outward). z.inside) (sym x.is) ∙ by x.passing x.nat (all_has (Comes lab c passed) passed x.passing all x.there) where
        by : (p : Passing) → p.nat ≡ c.nat → Comes lab c passed p → p.datagram.inside ≡ c.inside
        by p at (first nat inside) = inside
        by p at (next q way has climb outer inside dst) =
            absurd (not_back lab.topology lab.chain links c.nat way q.nat climb (outer ∙ ap (λ (i : ℕ). Some i) at))

  -- and each further one about where the one before it let it out
  pub at_outer : (way : List ℕ) {k j : ℕ} → Climb lab.chain c.nat way k → outer_in lab.chain k ≡ Some j → (d : Outward) → Has (outs_at j passed) (Out d)
      → IsFrom lab k passed d
  at_outer way {k} {j} up at d h =
      let x = passed_there j passed d h in
      by x.passing x.nat x.is (all_has (Comes lab c passed) passed x.passing all x.there) where
        by : (p : Passing) → p.nat ≡ j → p.datagram ≡ d → Comes lab c passed p → IsFrom lab k passed d
        by p nat_is is (first nat inside) =
            let same : c.nat ≡ j = sym nat ∙ nat_is in
            absurd (not_back lab.topology lab.chain links c.nat way k up (at ∙ ap (λ (i : ℕ). Some i) (sym same)))
        by p nat_is is (next q v has climb outer inside dst) =
            let one : q.nat ≡ k = one_before lab.topology lab.chain links c.nat v way climb up (outer ∙ ap (λ (i : ℕ). Some i) nat_is) at in
            record {
              before = q.datagram;
              there = there_passed k passed q has one;
              inside = ap (λ (z : Outward). z.inside) (sym is) ∙ inside ∙ ap (λ (i : ℕ). left_at lab i q.datagram) one;
              to = dst ∙ ap (λ (z : Outward). z.dst) is;
            }
