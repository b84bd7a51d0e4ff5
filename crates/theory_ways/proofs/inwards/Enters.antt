-- What comes in past each NAT of a client's way is let in to the client.
use Rattle.theory_ways.proofs.Words.{Behind, ClientNode, EachIsLetIn, EntersBy, EntersPast, Ep, Full, Inward, IsChained, IsTopology, Lab, List, None, Option, Some, TopologyState, [], ap, arith, chain_in, client_at, client_is_there, comes_to, false, false≢true, goes_in, inner_at, is_link, is_some, last_nat, length, let_in, list_all, nat_pasts, nat_set_up, nats_from, option_map, outer_in, outer_nats_of, outermost, refl, subst, suc, sym, true, unwrap_or, ℕ, ◌+◌, ◌∙◌, ◌∷◌, ◌≡◌, ◌≤◌}
use Rattle.theory_ways.proofs.chains.Chains.{Link, link, links_of}
use Rattle.theory_ways.proofs.chains.Climbs.{Climb}
use Rattle.theory_ways.proofs.chains.Rises.{its_way}
use Rattle.theory_ways.proofs.chains.Nats.{IsNat, nat_there, set_up_is, inner_found, none_inside}

-- a datagram from this endpoint comes in where the rules are kept
pub record Entering : Type 0 where
  pub lab : Lab
  pub H : List Full
  pub m : ℕ
  pub src : Ep
  pub is : IsTopology lab.topology
  pub chained : IsChained lab

module _ (the : Entering) where
  open the use {lab, H, m, src, is, chained}

  abbrev t : TopologyState
  t = lab.topology

  abbrev In : ℕ → ℕ → Option Ep
  In k port = let_in t (nat_pasts lab H) m k src port

  abbrev Goes : List Behind → ℕ → Option Ep → Inward
  Goes at_most k o = goes_in t lab.chain (nat_pasts lab H) m src at_most k o

  -- what is left of the way in, past these NATs
  pub record Left (at_most : List Behind) (way : List ℕ) (k : ℕ) (dst : Ep) (j : ℕ) (inside : Ep) : Type 0 where
    pub rest : List Behind
    pub count : length rest + length way ≡ length at_most
    pub goes : Goes at_most k (In k dst.port) ≡ Goes rest j (Some inside)

  -- one NAT more
  further : (rest : List Behind) (i : ℕ) {j : ℕ} (at : Ep) {inside : Ep} → 1 ≤ length rest → inner_at t lab.chain i at.ip ≡ Some j → In j at.port ≡ Some inside
      → (less : List Behind) × (suc (length less) ≡ length rest) × (Goes rest i (Some at) ≡ Goes less j (Some inside))
  further [] i at some found enters = absurd (omega (arith, some))
  further (b ∷ less) i {j} at some found enters = (
    less,
    refl,
    ap (λ (o : Option ℕ). unwrap_or (option_map (λ (q : ℕ). Goes less q (In q at.port)) o) (comes_to i at)) found ∙ ap (Goes less j) enters,
  )

  -- past all of these
  pub left : (at_most : List Behind) (j : ℕ) (way : List ℕ) {k : ℕ} {inside dst : Ep} → Climb lab.chain j way k → EntersPast lab H m src (j ∷ way) inside dst
      → length way ≤ length at_most → Left at_most way k dst j inside
  left at_most j [] {inside} {dst} same past few =
      let at_dst : past.0 ≡ dst = past.3 in
      let enters : In j dst.port ≡ Some inside = subst (λ (e : Ep). In j e.port ≡ Some inside) at_dst past.2 in
      record {
        rest = at_most;
        count = omega arith;
        goes = subst (λ (i : ℕ). Goes at_most i (In i dst.port) ≡ Goes at_most j (Some inside)) same (ap (Goes at_most j) enters);
      }
  left at_most j (i ∷ way) {k} {inside} {dst} climb past few =
      let fewer : length way ≤ length at_most = omega (arith, few) in
      let on = left at_most i way climb.1 past.3 fewer in
      let l : Link t j i = link t lab.chain j i (links_of t lab.chain chained) climb.0 in
      let found = inner_found is lab.chain (nat_there t j l.inner) past.1 climb.0 in
      let count : length on.rest + length way ≡ length at_most = on.count in
      let some : 1 ≤ length on.rest = omega (arith, count, few) in
      let next = further on.rest i past.0 some found past.2 in
      let less : suc (length next.0) ≡ length on.rest = next.1 in
      record { rest = next.0; count = omega (arith, count, less); goes = on.goes ∙ next.2 }

-- THE CLIENT

-- nothing goes on from a client
ends_there : (lab : Lab) (H : List Full) (m : ℕ) (src : Ep) (c : ClientNode) → is_some (inner_at lab.topology lab.chain c.nat c.inside.ip) ≡ false
    → (rest : List Behind) → goes_in lab.topology lab.chain (nat_pasts lab H) m src rest c.nat (Some c.inside) ≡ comes_to c.nat c.inside
ends_there lab H m src c none [] = refl
ends_there lab H m src c none (b ∷ rest) = by (inner_at lab.topology lab.chain c.nat c.inside.ip) none where
  by : (o : Option ℕ) → is_some o ≡ false
      → unwrap_or (option_map (λ (q : ℕ). goes_in lab.topology lab.chain (nat_pasts lab H) m src rest q
      (let_in lab.topology (nat_pasts lab H) m q src c.inside.port)) o) (comes_to c.nat c.inside) ≡ comes_to c.nat c.inside
  by None h = refl
  by (Some q) h = absurd (false≢true (sym h))

-- ALL OF IT

-- a way is no longer than what is allowed
pub few_of : (chain at_most : List Behind) (o : Option ℕ) → length (nats_from chain at_most o) ≤ length at_most
few_of chain at_most None = omega arith
few_of chain [] (Some k) = omega arith
few_of chain (b ∷ rest) (Some k) = let ih = few_of chain rest (outer_in chain k) in omega (arith, ih)

-- it comes to the address of the last NAT
pub last_external : (lab : Lab) (H : List Full) (m : ℕ) (src : Ep) (j : ℕ) (way : List ℕ) {inside : Ep} (dst : Ep) → EntersPast lab H m src (j ∷ way) inside dst
    → dst.ip ≡ (nat_set_up lab.topology (last_nat j way)).external
last_external lab H m src j [] dst past = subst (λ (e : Ep). e.ip ≡ (nat_set_up lab.topology j).external) past.3 past.1
last_external lab H m src j (i ∷ way) dst past = last_external lab H m src i way dst past.3

-- which is there
top_there : (t : TopologyState) (chain : List Behind) → list_all (is_link t chain) chain ≡ true → (j : ℕ) (way : List ℕ) (k : ℕ) → Climb chain j way k
    → IsNat t j → IsNat t k
top_there t chain all j [] k same n = subst (IsNat t) same n
top_there t chain all j (i ∷ way) k climb n = top_there t chain all i way k climb.1 (nat_there t i (link t chain j i all climb.0).outer)

-- from any source it comes first to the outermost NAT
pub enters_first : {lab : Lab} (H : List Full) (m : ℕ) (src dst : Ep) (n : ℕ) {c : ClientNode} {goes : Inward} → IsTopology lab.topology
    → IsChained lab → client_at lab.topology n ≡ Some c → dst.ip ≡ (nat_set_up lab.topology (outermost lab c)).external
    → chain_in lab.topology lab.chain (nat_pasts lab H) m (outermost lab c) src dst.port ≡ goes → EntersBy lab H m src dst goes
enters_first {lab} H m src dst n {c} is chained at external enters =
    let t = lab.topology in
    let its = client_is_there.nat_of t n c is (client_is_there.node t n c at) in
    let tops = its_way lab c chained in
    let top = top_there t lab.chain (links_of t lab.chain chained) c.nat (outer_nats_of lab c) (outermost lab c) tops.climb
    (record { row = its.row; at = its.there }) in
    record {
      outer = outermost lab c;
      row = top.row;
      there = top.at;
      outermost = tops.outermost;
      external = external ∙ set_up_is t (outermost lab c) top;
      enters = enters;
    }

-- so it is let in
pub is_let_in : EachIsLetIn
is_let_in lab H m src dst n c is chained at past =
    let way = outer_nats_of lab c in
    let tops = its_way lab c chained in
    let on = left (record { lab = lab; H = H; m = m; src = src; is = is; chained = chained }) lab.chain c.nat way tops.climb past
    (few_of lab.chain lab.chain (outer_in lab.chain c.nat)) in
    enters_first H m src dst n is chained at (last_external lab H m src c.nat way dst past)
    (on.goes ∙ ends_there lab H m src c (none_inside lab n c chained (client_is_there.node lab.topology n c at)) on.rest)
