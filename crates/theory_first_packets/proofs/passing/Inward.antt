-- What comes from somebody else to an endpoint at which a client is reached: NATs let it in to the same client, or one of them shuts
-- it out.
use Rattle.theory_first_packets.proofs.Words.{Behind, ClientNode, Ep, Full, Grown, Inward, IsLetIn, IsShutOut, Lab, List, None, Option, Some, [], ap, chain_in, comes, comes_to, counting_datagram_holds_its_port, false≢true, goes_in, inl, inner_at, inr, key_inside, let_in, let_in_where_asked, nat_history, nat_of, nat_pasts, now, option_map, port_has_one_key, refl, set_up_past, shut_at, subst, sym, unwrap_or, ℕ, ◌∙◌, ◌∷◌, ◌≡◌, ◌⊎◌}

-- two endpoints from which datagrams may come in after a history
pub record Incoming : Type 0 where
  pub lab : Lab
  pub H : List Full
  pub g : Grown lab H
  pub src : Ep
  pub other : Ep

module _ (incoming : Incoming) where
  open incoming use {lab, H, g, src, other}

  abbrev In : Ep → ℕ → ℕ → Option Ep
  In from k port = let_in lab.topology (nat_pasts lab H) (now H) k from port

  abbrev Goes : Ep → List Behind → ℕ → Option Ep → Inward
  Goes from at_most k o = goes_in lab.topology lab.chain (nat_pasts lab H) (now H) from at_most k o

  -- a NAT's port leads to one endpoint
  one_inside : (k port : ℕ) {u v : Ep} → In src k port ≡ Some u → In other k port ≡ Some v → v ≡ u
  one_inside k port {u} {v} first second =
      let s = nat_of lab k in
      let h = nat_history lab k H in
      let past = set_up_past lab H k g in
      let a = (let_in_where_asked s h (now H) past src port u).0 first in
      let b = (let_in_where_asked s h (now H) past other port v).0 second in
      let key = port_has_one_key s h (now H) past b.datagram.inside b.datagram.dst a.datagram.inside a.datagram.dst port
      (counting_datagram_holds_its_port s h (now H) past b.datagram b.counts ∙ ap (λ (p : ℕ). Some p) b.by_port)
      (counting_datagram_holds_its_port s h (now H) past a.datagram a.counts ∙ ap (λ (p : ℕ). Some p) a.by_port) in
      sym b.left ∙ key_inside s.kind b.datagram.inside b.datagram.dst a.datagram.inside a.datagram.dst key ∙ a.left

  -- it goes the same way, or is shut out
  abbrev SameOrShut : Inward → Inward → Type 0
  SameOrShut way it = ((k : ℕ) × (it ≡ shut_at k)) ⊎ (it ≡ way)

  -- at one NAT
  one_nat : (at_most : List Behind) (k port : ℕ) {j : ℕ} {x : Ep} {o p : Option Ep} → (In src k port ≡ o) × (In other k port ≡ p)
      → ((u : Ep) → Goes src at_most k (Some u) ≡ comes_to j x → SameOrShut (comes_to j x) (Goes other at_most k (Some u)))
      → Goes src at_most k o ≡ comes_to j x → SameOrShut (comes_to j x) (Goes other at_most k p)
  one_nat at_most k port {p = None} both on e = inl (k, refl)
  one_nat at_most k port {o = None} {p = Some v} both on e = absurd (false≢true (ap comes e))
  one_nat at_most k port {j} {x} {o = Some u} {p = Some v} both on e =
      subst (λ (z : Ep). SameOrShut (comes_to j x) (Goes other at_most k (Some z))) (sym (one_inside k port both.0 both.1)) (on u e)

  -- past one more, to where that leads
  onward : (rest : List Behind) (k : ℕ) (u : Ep) {j : ℕ} {x : Ep} → ((i : ℕ) → Goes src rest i (In src i u.port) ≡ comes_to j x
      → SameOrShut (comes_to j x) (Goes other rest i (In other i u.port))) → (o : Option ℕ)
      → unwrap_or (option_map (λ (i : ℕ). Goes src rest i (In src i u.port)) o) (comes_to k u) ≡ comes_to j x
      → SameOrShut (comes_to j x) (unwrap_or (option_map (λ (i : ℕ). Goes other rest i (In other i u.port)) o) (comes_to k u))
  onward rest k u ih None f = inr f
  onward rest k u ih (Some i) f = ih i f

  follows : (at_most : List Behind) (k port : ℕ) (j : ℕ) (x : Ep) → Goes src at_most k (In src k port) ≡ comes_to j x
      → SameOrShut (comes_to j x) (Goes other at_most k (In other k port))
  follows [] k port j x e = one_nat [] k port (refl, refl) (λ u f. inr f) e
  follows (b ∷ rest) k port j x e = one_nat (b ∷ rest) k port (refl, refl)
      (λ u f. onward rest k u (λ i. follows rest i u.port j x) (inner_at lab.topology lab.chain k u.ip) f) e

  -- so it is let in to the client too, or shut out
  pub data Comes (dst : Ep) (c : ClientNode) : Type 0 where
    let_in_too : IsLetIn lab H (now H) other dst c → Comes dst c
    shut_there : (k : ℕ) → IsShutOut lab H (now H) other dst k → Comes dst c

  pub comes_or_not : (dst : Ep) (c : ClientNode) → IsLetIn lab H (now H) src dst c → Comes dst c
  comes_or_not dst c in_ = by (follows lab.chain in_.outer dst.port c.nat c.inside in_.enters) where
    by : SameOrShut (comes_to c.nat c.inside) (chain_in lab.topology lab.chain (nat_pasts lab H) (now H) in_.outer other dst.port) → Comes dst c
    by (inl shut) = shut_there shut.0 (record {
      outer = in_.outer;
      row = in_.row;
      there = in_.there;
      outermost = in_.outermost;
      external = in_.external;
      enters = shut.1;
    })
    by (inr same) = let_in_too (record {
      outer = in_.outer;
      row = in_.row;
      there = in_.there;
      outermost = in_.outermost;
      external = in_.external;
      enters = same;
    })
