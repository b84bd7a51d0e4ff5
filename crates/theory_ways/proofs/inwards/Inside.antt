-- Where a datagram comes in depends on the port alone: whoever is let in there comes to one endpoint.
use Rattle.theory_ways.proofs.Words.{Behind, Bool, Ep, Full, Inward, Lab, List, NatEntry, NatKind, NatSettings, None, Option, Outward, Some, [], admits, ap, comes, comes_to, cond, counting, false, false≢true, find, goes_in, inner_at, inside_if, is_some, latest, let_in, lets_in, nat_pasts, nat_set_up, option_map, refl, subst, sym, true, unwrap_or, ℕ, ◌==◌, ◌∙◌, ◌∷◌, ◌≡◌}

-- the endpoint, or another where there is none
abbrev pub ep_or : Ep → Option Ep → Ep
ep_or e None = e
ep_or e (Some x) = x

-- a mapping lets in to its own inside endpoint, whoever comes
of_mapping : (kind : NatKind) (outs : List Outward) (src : Ep) (m : Outward) (x : Ep) → inside_if kind outs src (Some m) ≡ Some x → m.inside ≡ x
of_mapping kind outs src m x is = by (admits kind outs src m) is where
  by : (b : Bool) → cond b (Some m.inside) None ≡ Some x → m.inside ≡ x
  by true e = ap (ep_or x) e
  by false e = absurd (false≢true (ap (λ (o : Option Ep). is_some o) e))

-- so at one port there is one
pub one_inside : (s : NatSettings) (h : List NatEntry) (n port : ℕ) (src src' : Ep) {x y : Ep} → lets_in s h n src port ≡ Some x → lets_in s h n src' port ≡ Some y
    → x ≡ y
one_inside s h n port src src' {x} {y} is is' = by (find (λ (e : Outward). port == e.port) (latest s.kind (counting s.idle n h))) is is' where
  by : (o : Option Outward) → inside_if s.kind (counting s.idle n h) src o ≡ Some x → inside_if s.kind (counting s.idle n h) src' o ≡ Some y → x ≡ y
  by None e f = absurd (false≢true (ap (λ (o : Option Ep). is_some o) e))
  by (Some m) e f = sym (of_mapping s.kind (counting s.idle n h) src m x e) ∙ of_mapping s.kind (counting s.idle n h) src' m y f

-- past all NATs
module _ (lab : Lab) (H : List Full) (m : ℕ) (src src' : Ep) where
  abbrev In : Ep → ℕ → ℕ → Option Ep
  In from k port = let_in lab.topology (nat_pasts lab H) m k from port

  abbrev Goes : Ep → List Behind → ℕ → Option Ep → Inward
  Goes from at_most k o = goes_in lab.topology lab.chain (nat_pasts lab H) m from at_most k o

  one_in : (k port : ℕ) {u v : Ep} → In src k port ≡ Some u → In src' k port ≡ Some v → u ≡ v
  one_in k port {u} {v} = one_inside (nat_set_up lab.topology k) (nat_pasts lab H k) m port src src' {x = u} {y = v}

  -- two that come in at one port of a NAT come to one place
  pub one_end : (at_most : List Behind) (k port : ℕ) {o p : Option Ep} → In src k port ≡ o → In src' k port ≡ p → {i j : ℕ} {x y : Ep}
      → Goes src at_most k o ≡ comes_to i x → Goes src' at_most k p ≡ comes_to j y → comes_to i x ≡ comes_to j y
  one_end at_most k port {o = None} is is' e f = absurd (false≢true (ap comes e))
  one_end at_most k port {o = Some u} {p = None} is is' e f = absurd (false≢true (ap comes f))
  one_end [] k port {o = Some u} {p = Some v} is is' e f =
      sym e ∙ ap (comes_to k) (one_in k port is is') ∙ f
  one_end (b ∷ rest) k port {o = Some u} {p = Some v} is is' {i} {j} {x} {y} e f =
      by (inner_at lab.topology lab.chain k u.ip) e
      (subst (λ (w : Ep). Goes src' (b ∷ rest) k (Some w) ≡ comes_to j y) (sym (one_in k port is is')) f)
      (λ (q : ℕ). one_end rest q u.port refl refl) where
        by : (o : Option ℕ) → unwrap_or (option_map (λ (q : ℕ). Goes src rest q (In src q u.port)) o) (comes_to k u) ≡ comes_to i x
            → unwrap_or (option_map (λ (q : ℕ). Goes src' rest q (In src' q u.port)) o) (comes_to k u) ≡ comes_to j y
            → ((q : ℕ) → Goes src rest q (In src q u.port) ≡ comes_to i x → Goes src' rest q (In src' q u.port) ≡ comes_to j y → comes_to i x ≡ comes_to j y)
            → comes_to i x ≡ comes_to j y
        by None g h ih = sym g ∙ h
        by (Some q) g h ih = ih q g h
