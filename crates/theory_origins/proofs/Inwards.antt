-- Where a datagram is let in, live ports lead to the client.
use Rattle.theory_origins.proofs.Words.{Behind, ClientNode, Ep, Full, Grown, HoldsPort, IsLetIn, IsLive, Lab, LeadsTo, List, NatEntry, None, Option, Some, [], ap, comes, comes_to, false≢true, goes_in, inner_at, inside_in, let_in, live_after, live_port, nat_history, nat_in, nat_pasts, nat_set_up, now, option_map, owner_is_reached, refl, set_up_past, subst, sym, unwrap_or, ℕ, ◌∷◌, ◌≡◌}
use Rattle.theory_origins.specs.Live as live

-- where a datagram is let in live ports lead
module _ (lab : Lab) (H : List Full) (src : Ep) (c : ClientNode) (g : Grown lab H) where
  holds : (k port : ℕ) {inside : Ep} → let_in lab.topology (nat_pasts lab H) (now H) k src port ≡ Some inside → HoldsPort lab H k inside port
  holds k port {inside} enters = owner_is_reached (nat_set_up lab.topology k) (nat_history lab k H) (now H) (set_up_past lab H k g) src port inside enters

  ends_at : {k port : ℕ} {inside : Ep} → HoldsPort lab H k inside port → comes_to k inside ≡ comes_to c.nat c.inside → LeadsTo lab H c k port
  ends_at {k} {port} {inside} held same =
      let number : k ≡ c.nat = ap (nat_in k) same in
      let who : inside ≡ c.inside = ap (inside_in inside) same in
      subst (λ (j : ℕ). LeadsTo lab H c j port) (sym number)
      (live.ends port (subst (λ (j : ℕ). HoldsPort lab H j c.inside port) number (subst (λ (e : Ep). HoldsPort lab H k e port) who held)))

  leads : (at_most : List Behind) (k port : ℕ) (o : Option Ep) → let_in lab.topology (nat_pasts lab H) (now H) k src port ≡ o
      → goes_in lab.topology lab.chain (nat_pasts lab H) (now H) src at_most k o ≡ comes_to c.nat c.inside → LeadsTo lab H c k port
  leads at_most k port None enters e = absurd (false≢true (ap comes e))
  leads [] k port (Some inside) enters e = ends_at (holds k port enters) e
  leads (b ∷ rest) k port (Some inside) enters e = by (inner_at lab.topology lab.chain k inside.ip) refl e
      (λ (j : ℕ). leads rest j inside.port (let_in lab.topology (nat_pasts lab H) (now H) j src inside.port) refl) where
        by : (o : Option ℕ) → inner_at lab.topology lab.chain k inside.ip ≡ o
            → unwrap_or (option_map (λ (j : ℕ). goes_in lab.topology lab.chain (nat_pasts lab H) (now H) src rest j
            (let_in lab.topology (nat_pasts lab H) (now H) j src inside.port)) o) (comes_to k inside) ≡ comes_to c.nat c.inside
            → ((j : ℕ) → goes_in lab.topology lab.chain (nat_pasts lab H) (now H) src rest j
            (let_in lab.topology (nat_pasts lab H) (now H) j src inside.port) ≡ comes_to c.nat c.inside → LeadsTo lab H c j inside.port)
            → LeadsTo lab H c k port
        by None at f ih = ends_at (holds k port enters) f
        by (Some j) at f ih = live.goes_on k port j inside (holds k port enters) at (ih j f)

  pub is_live : (dst : Ep) → IsLetIn lab H (now H) src dst c → IsLive lab H c dst
  is_live dst in_ = record {
    outer = in_.outer;
    row = in_.row;
    there = in_.there;
    outermost = in_.outermost;
    external = in_.external;
    leads = leads lab.chain in_.outer dst.port (let_in lab.topology (nat_pasts lab H) (now H) in_.outer src dst.port) refl in_.enters;
  }

-- with a record that changes no NAT, at the same moment, all stays live
module _ (lab : Lab) (H : List Full) (r : Full) (c : ClientNode) (same : (k : ℕ) → nat_history lab k (r ∷ H) ≡ nat_history lab k H)
    (moment : r.moment ≡ now H) where
  still_holds : (k : ℕ) {port : ℕ} (inside : Ep) → HoldsPort lab H k inside port → HoldsPort lab (r ∷ H) k inside port
  still_holds k {port} inside held = subst (λ (m : ℕ). (dst : Ep) ×
      (live_port (nat_set_up lab.topology k).kind inside dst (live_after (nat_set_up lab.topology k) (nat_history lab k (r ∷ H)) m) ≡ Some port)) (sym moment)
      (subst (λ (h : List NatEntry). (dst : Ep) × (live_port (nat_set_up lab.topology k).kind inside dst
      (live_after (nat_set_up lab.topology k) h (now H)) ≡ Some port)) (sym (same k)) held)

  still_leads : {k port : ℕ} → LeadsTo lab H c k port → LeadsTo lab (r ∷ H) c k port
  still_leads (live.ends port held) = live.ends port (still_holds c.nat c.inside held)
  still_leads (live.goes_on k port j inside held at on) = live.goes_on k port j inside (still_holds k inside held) at (still_leads on)

  pub still_live : (e : Ep) → IsLive lab H c e → IsLive lab (r ∷ H) c e
  still_live e l = record {
    outer = l.outer;
    row = l.row;
    there = l.there;
    outermost = l.outermost;
    external = l.external;
    leads = still_leads l.leads;
  }
