-- Whom a relay serves: each native that names it.
use Rattle.theory_first_natives.proofs.Words.{Bool, Ip6, List, NativeNode, Node, Option, Some, TopologyState, [], ap, arith, cond, false, false≢true, filter, is_some, list_any, map, nat_tests, native, node_at, refl, same_ip6, same_ip6-self, served, slice_get, suc, true, unwrap_or, zero, ℕ, ◌==◌, ◌||◌, ◌∙◌, ◌∷◌, ◌≡◌}
use Rattle.theory_first_natives.proofs.Apart.{native_among}

abbrev six_of : Ip6 → Node → Ip6
six_of p (native h) = h.six
six_of p _ = p

abbrev relay_of : ℕ → Node → ℕ
relay_of k (native h) = h.relay
relay_of k _ = k

among : (hs : List NativeNode) (j : ℕ) (h : NativeNode) → slice_get (map native hs) j ≡ Some (native h)
    → list_any (same_ip6 h.six) (map (λ (g : NativeNode). g.six) (filter (λ (g : NativeNode). g.relay == h.relay) hs)) ≡ true
among [] j h e = absurd (false≢true (ap (λ (o : Option Node). is_some o) e))
among (g ∷ hs) zero h e = by (g.relay == h.relay) its where
  it : native g ≡ native h
  it = ap (λ (o : Option Node). unwrap_or o (native g)) e

  its : (g.relay == h.relay) ≡ true
  its = let same : g.relay ≡ h.relay = ap (relay_of g.relay) it in grind (arith, nat_tests)

  by : (b : Bool) → b ≡ true → list_any (same_ip6 h.six) (map (λ (f : NativeNode). f.six)
      (cond b (g ∷ filter (λ (f : NativeNode). f.relay == h.relay) hs) (filter (λ (f : NativeNode). f.relay == h.relay) hs))) ≡ true
  by false e = absurd (false≢true e)
  by true e = ap (λ (b : Bool). b || list_any (same_ip6 h.six) (map (λ (f : NativeNode). f.six) (filter (λ (f : NativeNode). f.relay == h.relay) hs)))
      (ap (λ (z : Ip6). same_ip6 h.six z) (ap (six_of g.six) it) ∙ same_ip6-self h.six)
among (g ∷ hs) (suc j) h e = by (g.relay == h.relay) (among hs j h e) where
  either : (b c : Bool) → c ≡ true → (b || c) ≡ true
  either true c e = refl
  either false c e = e

  by : (b : Bool) → list_any (same_ip6 h.six) (map (λ (f : NativeNode). f.six) (filter (λ (f : NativeNode). f.relay == h.relay) hs)) ≡ true
      → list_any (same_ip6 h.six) (map (λ (f : NativeNode). f.six)
      (cond b (g ∷ filter (λ (f : NativeNode). f.relay == h.relay) hs) (filter (λ (f : NativeNode). f.relay == h.relay) hs))) ≡ true
  by false ih = ih
  by true ih = either (same_ip6 h.six g.six) (list_any (same_ip6 h.six)
      (map (λ (f : NativeNode). f.six) (filter (λ (f : NativeNode). f.relay == h.relay) hs))) ih

-- a native's relay serves it
pub is_served : (t : TopologyState) (m : ℕ) (h : NativeNode) → node_at t m ≡ Some (native h) → list_any (same_ip6 h.six) (served t h.relay) ≡ true
is_served t m h at =
    let there = native_among t m h at in
    among t.natives there.0 h there.1
