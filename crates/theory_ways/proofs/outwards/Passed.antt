-- How a client's datagrams pass its way: each NAT is asked about the endpoint at which the one before it let one out.
use Rattle.theory_ways.proofs.Words.{AllByRecursion, Bool, ClientNode, Ep, Err, Full, Has, Lab, List, NatRefusal, Ok, Option, Passing, Result, Send, Some, [], after_passing, answered, armed, by_way, crossing, crossing_unless, false, inl, inr, is_at_place, nat_answer, nat_pasts, nat_set_up, outer_in, outer_nats_of, outermost, passing, refl, subst, sym, true, ℕ, ◌++◌, ◌+◌, ◌∷◌, ◌≡◌, ◌⊎◌}
use Rattle.theory_ways.proofs.chains.Climbs.{Climb, one_more}
use Rattle.theory_ways.proofs.chains.Rises.{its_climb}
use Rattle.theory_ways.proofs.phases.OneMore.{OneMore, Did}
use Rattle.theory_ways.proofs.outwards.Asks.{left_at}

-- a datagram came to its NAT from the client, or from where the NAT before it let out one to the same destination
pub data Comes (lab : Lab) (c : ClientNode) (all : List Passing) (p : Passing) : Type 0 where
  first : p.nat ≡ c.nat → p.datagram.inside ≡ c.inside → Comes lab c all p
  next : (q : Passing) (way : List ℕ) → Has all q → Climb lab.chain c.nat way q.nat → outer_in lab.chain q.nat ≡ Some p.nat
      → p.datagram.inside ≡ left_at lab q.nat q.datagram → q.datagram.dst ≡ p.datagram.dst → Comes lab c all p

abbrev pub AllCome : Lab → ClientNode → List Passing → List Passing → Type 0
AllCome lab c all passed = AllByRecursion (Comes lab c all) passed

-- one more passing
more : (lab : Lab) (c : ClientNode) (all : List Passing) (x p : Passing) → Comes lab c all p → Comes lab c (x ∷ all) p
more lab c all x p (first nat inside) = first nat inside
more lab c all x p (next q way has climb outer inside dst) = next q way (inr has) climb outer inside dst

all_more : (lab : Lab) (c : ClientNode) (all : List Passing) (x : Passing) (ps : List Passing) → AllCome lab c all ps → AllCome lab c (x ∷ all) ps
all_more lab c all x [] a = tt
all_more lab c all x (p ∷ ps) a = (more lab c all x p a.0, all_more lab c all x ps a.1)

module _ (lab : Lab) (H : List Full) (m : ℕ) (c : ClientNode) where
  -- where a datagram comes from at NAT k
  abbrev Starts : List Passing → ℕ → Ep → Ep → Type 0
  Starts passed k from dst = ((k ≡ c.nat) × (from ≡ c.inside))
      ⊎ ((q : Passing) × (way : List ℕ) × Has passed q × Climb lab.chain c.nat way q.nat × (outer_in lab.chain q.nat ≡ Some k)
      × (from ≡ left_at lab q.nat q.datagram) × (q.datagram.dst ≡ dst))

  comes : {passed : List Passing} {k : ℕ} {from dst : Ep} (port : ℕ) → Starts passed k from dst
      → Comes lab c (passing k m from dst port ∷ passed) (passing k m from dst port)
  comes port (inl here) = first here.0 here.1
  comes port (inr on) = next on.0 on.1 (inr on.2) on.3 on.4 on.5 on.6

  abbrev After : List ℕ → Ep → Ep → List Passing → List Passing
  After way dst from passed = (crossing lab.topology (nat_pasts lab H) m dst way from passed).passed

  -- NAT k answered
  at_one : (way : List ℕ) (k : ℕ) (dst from : Ep) (passed : List Passing) → AllCome lab c passed passed
      → ((port : ℕ) → AllCome lab c (After way dst (left_at lab k (passing k m from dst port).datagram) (passing k m from dst port ∷ passed))
      (After way dst (left_at lab k (passing k m from dst port).datagram) (passing k m from dst port ∷ passed)))
      → (r : Result ℕ NatRefusal)
      → AllCome lab c (answered lab.topology m k from dst passed (crossing lab.topology (nat_pasts lab H) m dst way) r).passed
      (answered lab.topology m k from dst passed (crossing lab.topology (nat_pasts lab H) m dst way) r).passed
  at_one way k dst from passed all f (Ok port) = f port
  at_one way k dst from passed all f (Err why) = all

  so_far : {k : ℕ} {dst from : Ep} {passed : List Passing} → Starts passed k from dst → AllCome lab c passed passed → (port : ℕ)
      → AllCome lab c (passing k m from dst port ∷ passed) (passing k m from dst port ∷ passed)
  so_far {k} {dst} {from} {passed} starts all port = (comes port starts, all_more lab c passed (passing k m from dst port) passed all)

  -- past it and those outside it
  crossed : (way : List ℕ) {k : ℕ} (top : ℕ) → Climb lab.chain k way top → (before : List ℕ) × Climb lab.chain c.nat before k
      → {dst from : Ep} (passed : List Passing) → Starts passed k from dst → AllCome lab c passed passed
      → AllCome lab c (After (k ∷ way) dst from passed) (After (k ∷ way) dst from passed)
  crossed [] {k} top climb up {dst} {from} passed starts all = at_one [] k dst from passed all (so_far starts all)
      (nat_answer (nat_set_up lab.topology k) (after_passing passed (nat_pasts lab H) k) m from dst)
  crossed (j ∷ way) {k} top climb up {dst} {from} passed starts all = at_one (j ∷ way) k dst from passed all
      (λ (port : ℕ). crossed way top climb.1 (up.0 ++ j ∷ [], one_more lab.chain c.nat up.0 k j up.1 climb.0) (passing k m from dst port ∷ passed)
      (inr (passing k m from dst port, up.0, inl refl, up.1, climb.0, refl, refl)) (so_far starts all port))
      (nat_answer (nat_set_up lab.topology k) (after_passing passed (nat_pasts lab H) k) m from dst)

  -- and of all that a client sends
  module _ (way : List ℕ) (top : ℕ) (climb : Climb lab.chain c.nat way top) where
    unless : (fails : Bool) (dst : Ep) (passed : List Passing) → AllCome lab c passed passed
        → AllCome lab c (crossing_unless fails lab H m dst (c.nat ∷ way) c.inside passed).passed
        (crossing_unless fails lab H m dst (c.nat ∷ way) c.inside passed).passed
    unless true dst passed all = all
    unless false dst passed all = crossed way top climb ([], refl) passed (inl (refl, refl)) all

    all_sent : (fails : Option ℕ) (i : ℕ) (passed : List Passing) (xs : List Send) → AllCome lab c passed passed
        → AllCome lab c (by_way lab H m (c.nat ∷ way) c.inside fails i passed xs).passed
        (by_way lab H m (c.nat ∷ way) c.inside fails i passed xs).passed
    all_sent fails i passed [] all = all
    all_sent fails i passed (x ∷ xs) all =
        all_sent fails (i + 1) (crossing_unless (is_at_place i fails) lab H m x.to (c.nat ∷ way) c.inside passed).passed xs
        (unless (is_at_place i fails) x.to passed all)

-- so it is in a record of a client
pub record_comes : (x : OneMore) (a : Did x) → AllCome x.lab a.row x.full.passed x.full.passed
record_comes x a =
    subst (λ (ps : List Passing). AllCome x.lab a.row ps ps) (sym a.act.passed)
    (all_sent x.lab x.before x.full.moment a.row (outer_nats_of x.lab a.row) (outermost x.lab a.row) (its_climb x.lab a.row x.there.chained)
    (armed x.before) 0 [] a.entry.step.sends tt)
