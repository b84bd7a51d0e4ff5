-- How a client's datagram that got through went out: past each NAT of its way, from where the one before let it out.
use Rattle.theory_ways.proofs.Words.{Bool, Crossing, Ep, Err, Full, Has, Lab, List, Made, NatRefusal, Ok, Option, Out, Outward, Passing, Result, Send, [], after_passing, answered, ap, by_way, crossing, crossing_unless, false, false≢true, inl, inr, is_at_place, marked, nat_answer, nat_pasts, nat_set_up, or_loss, outs_at, passing, refl, sent, subst, true, udp, ℕ, ◌∙◌, ◌∷◌, ◌≡◌}
use Rattle.theory_ways.proofs.outwards.Asks.{left_at}
use Rattle.theory_ways.proofs.chains.Places.{there_passed}

-- among those that passed NAT k is this one
pub record IsOut (passed : List Passing) (k : ℕ) (from to : Ep) (d : Outward) : Type 0 where
  pub there : Has (outs_at k passed) (Out d)
  pub inside : d.inside ≡ from
  pub goes : d.dst ≡ to

-- one went out past these NATs, and left them at o
abbrev pub WentOut : Lab → List Passing → Ep → List ℕ → (from o : Ep) → Type 0
WentOut lab passed to [] from o = from ≡ o
WentOut lab passed to (k ∷ way) from o = (d : Outward) × IsOut passed k from to d × WentOut lab passed to way (left_at lab k d) o

abbrev got_through : Result Ep NatRefusal → Bool
got_through (Ok e) = true
got_through (Err why) = false

abbrev where_left : Ep → Result Ep NatRefusal → Ep
where_left e (Ok o) = o
where_left e (Err why) = e

module _ (lab : Lab) (H : List Full) (m : ℕ) (to : Ep) where
  abbrev Crossed : List ℕ → Ep → List Passing → Crossing
  Crossed way from passed = crossing lab.topology (nat_pasts lab H) m to way from passed

  abbrev Answered : List ℕ → ℕ → Ep → List Passing → Result ℕ NatRefusal → Crossing
  Answered way k from passed r = answered lab.topology m k from to passed (crossing lab.topology (nat_pasts lab H) m to way) r

  abbrev so_far : ℕ → Ep → List Passing → ℕ → List Passing
  so_far k from passed port = passing k m from to port ∷ passed

  abbrev exit : ℕ → Ep → ℕ → Ep
  exit k from port = left_at lab k (passing k m from to port).datagram

  -- what passed before did
  still_passed : (way : List ℕ) (from : Ep) (passed : List Passing) (p : Passing) → Has passed p → Has (Crossed way from passed).passed p
  still_passed [] from passed p h = h
  still_passed (k ∷ way) from passed p h = by (λ port. still_passed way (exit k from port) (so_far k from passed port) p (inr h))
      (nat_answer (nat_set_up lab.topology k) (after_passing passed (nat_pasts lab H) k) m from to) where
        by : ((port : ℕ) → Has (Crossed way (exit k from port) (so_far k from passed port)).passed p) → (r : Result ℕ NatRefusal)
            → Has (Answered way k from passed r).passed p
        by f (Ok port) = f port
        by f (Err why) = h

  -- one that leaves went out
  went_out : (way : List ℕ) (from : Ep) (passed : List Passing) {o : Ep} → (Crossed way from passed).leaves ≡ Ok o
      → WentOut lab (Crossed way from passed).passed to way from o
  went_out [] from passed e = ap (where_left from) e
  went_out (k ∷ way) from passed {o} e = by (λ port. went_out way (exit k from port) (so_far k from passed port) {o = o})
      (nat_answer (nat_set_up lab.topology k) (after_passing passed (nat_pasts lab H) k) m from to) e where
        first : (port : ℕ) → IsOut (Crossed way (exit k from port) (so_far k from passed port)).passed k from to (passing k m from to port).datagram
        first port = record {
          there = there_passed k (Crossed way (exit k from port) (so_far k from passed port)).passed (passing k m from to port)
              (still_passed way (exit k from port) (so_far k from passed port) (passing k m from to port) (inl refl)) refl;
          inside = refl;
          goes = refl;
        }

        by : ((port : ℕ) → (Crossed way (exit k from port) (so_far k from passed port)).leaves ≡ Ok o
            → WentOut lab (Crossed way (exit k from port) (so_far k from passed port)).passed to way (exit k from port) o)
            → (r : Result ℕ NatRefusal) → (Answered way k from passed r).leaves ≡ Ok o → WentOut lab (Answered way k from passed r).passed to (k ∷ way) from o
        by f (Ok port) g = ((passing k m from to port).datagram, first port, f port g)
        by f (Err why) g = absurd (false≢true (ap got_through g))

-- THE ONE SEND OF A RECORD

abbrev source_or : Ep → List Made → Ep
source_or e (sent (udp src dst bytes) ∷ more) = src
source_or e _ = e

abbrev destination_or : Ep → List Made → Ep
destination_or e (sent (udp src dst bytes) ∷ more) = dst
destination_or e _ = e

abbrev is_sent : List Made → Bool
is_sent (sent x ∷ more) = true
is_sent _ = false

abbrev is_one : List Made → Bool
is_one (x ∷ []) = true
is_one _ = false

-- a datagram that went out along a way
pub record WayTaken : Type 0 where
  pub lab : Lab
  pub H : List Full
  pub m : ℕ
  pub way : List ℕ
  pub inside : Ep
  pub left : Ep
  pub to : Ep
  pub bytes : List ℕ

module _ (way_taken : WayTaken) where
  open way_taken use {lab, H, m, way, inside, left, to, bytes}

  abbrev Crossing_unless : Bool → Ep → Crossing
  Crossing_unless fails dst = crossing_unless fails lab H m dst way inside []

  abbrev Made_by : Bool → Send → List Made
  Made_by fails x = marked x (or_loss fails (Crossing_unless fails x.to).leaves) ∷ []

  -- it went out
  one_sent : (fails : Bool) (x : Send) → Made_by fails x ≡ sent (udp left to bytes) ∷ [] → WentOut lab (Crossing_unless fails x.to).passed to way inside left
  one_sent true x e = absurd (false≢true (ap is_sent e))
  one_sent false x e = by (Crossing_unless false x.to).leaves refl e where
    by : (r : Result Ep NatRefusal) → (Crossing_unless false x.to).leaves ≡ r → marked x (or_loss false r) ∷ [] ≡ sent (udp left to bytes) ∷ []
        → WentOut lab (Crossing_unless false x.to).passed to way inside left
    by (Ok o) at f =
        let same : o ≡ left = ap (source_or o) f in
        let its : x.to ≡ to = ap (destination_or x.to) f in
        subst (λ (z : Ep). WentOut lab (Crossing_unless false x.to).passed z way inside left) its
        (went_out lab H m x.to way inside [] (at ∙ ap (λ (z : Ep). Ok z) same))
    by (Err why) at f = absurd (false≢true (ap is_sent f))

  pub sent_out : (fails : Option ℕ) (xs : List Send) → (by_way lab H m way inside fails 0 [] xs).made ≡ sent (udp left to bytes) ∷ []
      → WentOut lab (by_way lab H m way inside fails 0 [] xs).passed to way inside left
  sent_out fails [] e = absurd (false≢true (ap is_sent e))
  sent_out fails (x ∷ []) e = one_sent (is_at_place 0 fails) x e
  sent_out fails (x ∷ y ∷ more) e = absurd (false≢true (ap is_one e))
