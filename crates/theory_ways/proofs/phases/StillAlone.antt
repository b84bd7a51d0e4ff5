-- While a client asks its server's primary address alone, that stays so along its way.
use Rattle.theory_ways.proofs.Words.{Ep, Full, Has, Lab, List, Out, Outward, [], arith, each_is_later, inl, inr, outs_at, subst, ℕ, ◌∷◌, ◌≡◌, ◌≤◌, ◌⊎◌}
use Rattle.theory_ways.proofs.phases.OneMore.{OneMore, was, after}
use Rattle.theory_ways.proofs.outwards.Asks.{server_of, Counts, IsAsk, AsksFrom, left_at}
use Rattle.theory_ways.proofs.phases.Sound.{AloneFrom}
use Rattle.theory_ways.proofs.outwards.NewOuts.{CountedAt, new_or_at, new_or_was}
use Rattle.theory_ways.proofs.outwards.StillAsks.{Asked, asked_next, one_exit, asked_counts}

module _ (x : OneMore) where
  abbrev lab : Lab
  lab = x.lab

  abbrev r : Full
  r = x.full

  abbrev P : Ep
  P = server_of (was x)

  -- new datagrams from there go to the server
  abbrev pub NewGo : ℕ → Ep → Type 0
  NewGo k inside = (d : Outward) → Has (outs_at k r.passed) (Out d) → d.inside ≡ inside → d.dst ≡ P

  -- so they do at this NAT and, from where the client's ask left it, at those outside it
  abbrev pub AllGo : List ℕ → ℕ → Ep → Ep → Type 0
  AllGo [] k inside o = NewGo k inside
  AllGo (j ∷ way) k inside o = NewGo k inside
      × ((e : Outward) → IsAsk (was x) k inside e → AsksFrom (was x) (j ∷ way) (left_at lab k e) o → AllGo way j (left_at lab k e) o)

  -- each datagram that counts went to the server
  each_goes : (k : ℕ) (inside : Ep) → NewGo k inside → ((d : Outward) → Counts (was x) k d → d.inside ≡ inside → d.dst ≡ P) → (d : Outward)
      → Counts (after x) k d → d.inside ≡ inside → d.dst ≡ P
  each_goes k inside new old d counts left = by (new_or_was x k d (each_is_later lab x.before r x.grown) counts) where
    by : Has (outs_at k r.passed) (Out d) ⊎ Counts (was x) k d → d.dst ≡ P
    by (inl h) = new d h left
    by (inr h) = old d h left

  pub still_alone : (way : List ℕ) (k : ℕ) (inside : Ep) (a : Asked x way k inside) → AllGo way k inside a.o → AloneFrom (was x) (k ∷ way) inside
      → AloneFrom (after x) (k ∷ way) inside
  still_alone [] k inside a go alone d counts left =
      (each_goes k inside go (λ y w l. (alone y w l).0) d counts left, tt)
  still_alone (j ∷ way) k inside a go alone d counts left =
      let to = each_goes k inside go.0 (λ y w l. (alone y w l).0) d counts left in
      let exit : left_at lab k a.asks.0 ≡ left_at lab k d =
      one_exit x k (asked_counts x (j ∷ way) k inside a) a.asks.1.left a.asks.1.to counts left to in
      let rest = still_alone way j (left_at lab k a.asks.0) (asked_next x way k j inside a) (go.1 a.asks.0 a.asks.1 a.asks.2)
      (alone a.asks.0 a.asks.1.counts a.asks.1.left).1 in
      (to, subst (λ (e : Ep). AloneFrom (after x) (j ∷ way) e) exit rest)

  -- THE FIRST DATAGRAMS

  -- no older datagram that counts came from there
  abbrev pub NoneOld : ℕ → Ep → Type 0
  NoneOld k inside = (d : Outward) → CountedAt x r.moment k d → d.inside ≡ inside → ⊥

  new_goes : (k : ℕ) (inside : Ep) → NewGo k inside → NoneOld k inside → (d : Outward) → Counts (after x) k d → d.inside ≡ inside → d.dst ≡ P
  new_goes k inside new none d counts left = by (new_or_at x r.moment k d (le_refl r.moment) counts) where
    le_refl : (m : ℕ) → m ≤ m
    le_refl m = omega arith

    by : Has (outs_at k r.passed) (Out d) ⊎ CountedAt x r.moment k d → d.dst ≡ P
    by (inl h) = new d h left
    by (inr h) = absurd (none d h left)

  -- so it is at this NAT and those outside it, and new datagrams go to the server
  abbrev pub AllNew : List ℕ → ℕ → Ep → Ep → Type 0
  AllNew [] k inside o = NewGo k inside × NoneOld k inside
  AllNew (j ∷ way) k inside o = (NewGo k inside × NoneOld k inside)
      × ((e : Outward) → IsAsk (after x) k inside e → AsksFrom (after x) (j ∷ way) (left_at lab k e) o → AllNew way j (left_at lab k e) o)

  pub first_alone : (way : List ℕ) (k : ℕ) (inside o : Ep) → AsksFrom (after x) (k ∷ way) inside o → AllNew way k inside o
      → AloneFrom (after x) (k ∷ way) inside
  first_alone [] k inside o a new d counts left = (new_goes k inside new.0 new.1 d counts left, tt)
  first_alone (j ∷ way) k inside o a new d counts left =
      let to = new_goes k inside new.0.0 new.0.1 d counts left in
      let exit : left_at lab k a.0 ≡ left_at lab k d = one_exit x k a.1.counts a.1.left a.1.to counts left to in
      let rest = first_alone way j (left_at lab k a.0) o a.2 (new.1 a.0 a.1 a.2) in
      (to, subst (λ (e : Ep). AloneFrom (after x) (j ∷ way) e) exit rest)
