-- A walk, NAT by NAT.
use Rattle.td_chain.proofs.Words.{Ep, List, NatPasts, None, Option, Passing, Some, TopologyState, [], ap, arith, nat_set_up, passed_by, passing, refl, slice_get, suc, walk, walked_on, zero, ℕ, ◌-◌, ◌∙◌, ◌∷◌, ◌≡◌, ◌≢◌}

-- a datagram that comes to NAT k from an endpoint
pub record Walker : Type 0 where
  pub t : TopologyState
  pub h : NatPasts
  pub m : ℕ
  pub dst : Ep
  pub from : Ep
  pub k : ℕ

abbrev pub passes_by : Walker → Option ℕ
passes_by x = passed_by x.t x.h x.m x.k x.from x.dst

-- from there past these NATs
abbrev pub walks : Walker → List ℕ → List Passing
walks x way = walk x.t x.h x.m x.dst (x.k ∷ way) x.from

behind_first : (p : Passing) (ps : List Passing) (place : ℕ) → (place ≡ 0 → ⊥) → slice_get ps (place - 1) ≡ slice_get (p ∷ ps) place
behind_first p ps zero later = absurd (later refl)
behind_first p ps (suc place) later = ap (slice_get ps) (omega arith)

-- and goes on from the NAT's external address
pub goes_on : (x : Walker) (way : List ℕ) (port place : ℕ) → Some port ≡ passes_by x → (place ≡ 0 → ⊥)
    → slice_get (walk x.t x.h x.m x.dst way (record { ip = (nat_set_up x.t x.k).external; port = port })) (place - 1) ≡ slice_get (walks x way) place
goes_on x way port place some later =
    behind_first (passing x.k x.m x.from x.dst port) (walk x.t x.h x.m x.dst way (record { ip = (nat_set_up x.t x.k).external; port = port })) place later
    ∙ ap (λ (r : Option ℕ). slice_get (walked_on x.t x.m x.k x.from x.dst (walk x.t x.h x.m x.dst way) r) place) some
