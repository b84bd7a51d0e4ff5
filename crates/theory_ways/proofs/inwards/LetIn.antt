-- What is let in along a client's way after it sent something: from whom this went to, and from anybody where each NAT is cone.
use Rattle.theory_ways.proofs.Words.{AllByRecursion, Bool, EntersPast, Ep, Full, Grown, IsPast, Lab, List, NatEntry, NatKind, NatSettings, Outward, [], and_parts, asks_it, false≢true, is_cone_kind, let_in_where_asked, list_all, nat_history, nat_of, now, refl, set_up_past, true, ℕ, ◌∷◌, ◌≡◌}
use Rattle.nat_kinds.specs.declared.kind.NatKind.TheVariants as kind
use Rattle.nat_kinds.specs.Laws.{Asked}
use Rattle.theory_ways.proofs.phases.OneMore.{Asker}
use Rattle.theory_ways.proofs.outwards.Asks.{left_at}
use Rattle.theory_ways.proofs.outwards.Held.{Held}

-- a cone NAT lets everybody in
cone_asks : (k : NatKind) → is_cone_kind k ≡ true → (src : Ep) (d : Outward) → Asked k src d
cone_asks kind.Cone h src d = tt
cone_asks kind.Restricted h src d = absurd (false≢true h)
cone_asks kind.Port h src d = absurd (false≢true h)
cone_asks kind.Symmetric h src d = absurd (false≢true h)

module _ (v : Asker) (g : Grown v.lab v.past) where
  abbrev lab : Lab
  lab = v.lab

  abbrev H : List Full
  H = v.past

  abbrev s : ℕ → NatSettings
  s k = nat_of lab k

  abbrev past : ℕ → List NatEntry
  past k = nat_history lab k H

  is_past : (k : ℕ) → IsPast (s k) (past k) (now H)
  is_past k = set_up_past lab H k g

  -- what was sent to `to` asked src, as NAT k looks
  abbrev AsksFor : (to src : Ep) → ℕ → Type 0
  AsksFor to src k = (d : Outward) → d.dst ≡ to → Asked (s k).kind src d

  comes_in : (to src : Ep) (way : List ℕ) (inside o : Ep) → Held v to way inside o → AllByRecursion (AsksFor to src) way
      → EntersPast lab H (now H) src way inside o
  comes_in to src [] inside o h a = h
  comes_in to src (k ∷ way) inside o h a = (
    left_at lab k h.0,
    refl,
    (let_in_where_asked (s k) (past k) (now H) (is_past k) src h.0.port inside).1 (record {
      datagram = h.0;
      counts = h.1.counts;
      left = h.1.left;
      by_port = refl;
      asked = a.0 h.0 h.1.goes;
    }),
    comes_in to src way (left_at lab k h.0) o h.2 a.1,
  )

  asks_itself : (to : Ep) (way : List ℕ) → AllByRecursion (AsksFor to to) way
  asks_itself to [] = tt
  asks_itself to (k ∷ way) = ((λ d e. asks_it (s k).kind to d e), asks_itself to way)

  -- whom the client sent to
  pub asked_enters : (to : Ep) (way : List ℕ) (inside o : Ep) → Held v to way inside o → EntersPast lab H (now H) to way inside o
  asked_enters to way inside o h = comes_in to to way inside o h (asks_itself to way)

  abbrev pub AllCone : List ℕ → Bool
  AllCone way = list_all (λ (k : ℕ). is_cone_kind (nat_of lab k).kind) way

  cones_ask : (to src : Ep) (way : List ℕ) → AllCone way ≡ true → AllByRecursion (AsksFor to src) way
  cones_ask to src [] h = tt
  cones_ask to src (k ∷ way) h =
      let both = and_parts (is_cone_kind (s k).kind) (AllCone way) h in
      ((λ d e. cone_asks (s k).kind both.0 src d), cones_ask to src way both.1)

  -- and anybody, where each NAT is cone
  pub any_enters : (to src : Ep) (way : List ℕ) (inside o : Ep) → AllCone way ≡ true → Held v to way inside o → EntersPast lab H (now H) src way inside o
  any_enters to src way inside o cones h = comes_in to src way inside o h (cones_ask to src way cones)
