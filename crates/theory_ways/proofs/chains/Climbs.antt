-- Climbing from a NAT to the outermost one, and back.
use Rattle.theory_ways.proofs.Words.{Behind, Bool, ClientNode, EachEntersByItsWay, EntersPast, Ep, Full, Ip4, IsChained, IsLetIn, Lab, List, NatNode, None, Option, Some, TopologyState, [], address_there, and_parts, ap, arith, comes, comes_to, cond, each_once, false, false≢true, goes_in, has_external, inner_at, inside_in, is_inner, is_some, last_nat, length, let_in, nat_at, nat_in, nat_pasts, nat_set_up, nat_tests, nats_from, nats_of, not, not-true, option_map, outer_in, outermost, refl, same_Some, same_ip-true, settings_of_nat, subst, suc, sym, true, unwrap_or, ℕ, ◌&&◌, ◌++◌, ◌==◌, ◌∙◌, ◌∷◌, ◌≡◌, ◌≤◌}
use Rattle.theory_ways.proofs.chains.Chains.{once_of}

-- INWARDS IS BACK OUTWARDS

-- the NAT directly behind NAT k with that address is behind it, and has it
record Within (t : TopologyState) (chain : List Behind) (k j : ℕ) (ip : Ip4) : Type 0 where
  outer : outer_in chain j ≡ Some k
  external : ip ≡ (nat_set_up t j).external

-- a NAT that is asked for by its address has it
external_of : (t : TopologyState) (j : ℕ) (ip : Ip4) → has_external ip (nat_at t j) ≡ true → ip ≡ (nat_set_up t j).external
external_of t j ip h = by (nat_at t j) h where
  by : (o : Option NatNode) → has_external ip o ≡ true → ip ≡ (settings_of_nat o).external
  by None e = absurd (false≢true e)
  by (Some a) e = same_ip-true ip a.external e

-- what is found there is such a one
within : (t : TopologyState) (chain : List Behind) (k j : ℕ) (ip : Ip4) → each_once chain ≡ true → inner_at t chain k ip ≡ Some j → Within t chain k j ip
within t [] k j ip once at = absurd (false≢true (ap (λ (o : Option ℕ). is_some o) at))
within t (b ∷ rest) k j ip once at = by ((b.outer == k) && has_external ip (nat_at t b.inner)) refl at (λ f. within t rest k j ip parts.1 f) where
  parts : (not (is_inner rest b.inner) ≡ true) × (each_once rest ≡ true)
  parts = and_parts (not (is_inner rest b.inner)) (each_once rest) once

  further : Within t rest k j ip → (x : Bool) → (b.inner == j) ≡ x → cond x (Some b.outer) (outer_in rest j) ≡ Some k
  further w false e = w.outer
  further w true e =
      let same : b.inner ≡ j = grind (arith, nat_tests) in
      absurd (false≢true (sym (not-true (is_inner rest b.inner) parts.0)
      ∙ ap (λ (i : ℕ). is_inner rest i) same ∙ ap (λ (o : Option ℕ). is_some o) w.outer))

  by : (x : Bool) → ((b.outer == k) && has_external ip (nat_at t b.inner)) ≡ x → cond x (Some b.inner) (inner_at t rest k ip) ≡ Some j
      → (inner_at t rest k ip ≡ Some j → Within t rest k j ip) → Within t (b ∷ rest) k j ip
  by true e f ih =
      let both = and_parts (b.outer == k) (has_external ip (nat_at t b.inner)) e in
      let number : b.inner ≡ j = same_Some b.inner j f in
      let first : (b.outer == k) ≡ true = both.0 in
      let outer : b.outer ≡ k = grind (arith, nat_tests) in
      let itself : (b.inner == j) ≡ true = grind (arith, nat_tests) in
      record {
        outer = ap (λ (y : Bool). cond y (Some b.outer) (outer_in rest j)) itself ∙ ap (λ (i : ℕ). Some i) outer;
        external = subst (λ (i : ℕ). ip ≡ (nat_set_up t i).external) number (external_of t b.inner ip both.1);
      }
  by false e f ih =
      let w = ih f in
      record { outer = further w (b.inner == j) refl; external = w.external }

-- CLIMBING

-- these are the NATs outside NAT j, up to NAT k
abbrev pub Climb : List Behind → ℕ → List ℕ → ℕ → Type 0
Climb chain j [] k = j ≡ k
Climb chain j (i ∷ way) k = (outer_in chain j ≡ Some i) × Climb chain i way k

-- one NAT more
pub one_more : (chain : List Behind) (j : ℕ) (way : List ℕ) (q k : ℕ) → Climb chain j way q → outer_in chain q ≡ Some k
    → Climb chain j (way ++ k ∷ []) k
one_more chain j [] q k same up = (ap (outer_in chain) same ∙ up, refl)
one_more chain j (i ∷ way) q k c up = (c.0, one_more chain i way q k c.1 up)

-- they are those of the way out, where NAT k is behind no other
climbs : (chain at_most : List Behind) (j : ℕ) (way : List ℕ) (k : ℕ) → Climb chain j way k → is_inner chain k ≡ false → length way ≤ length at_most
    → nats_from chain at_most (outer_in chain j) ≡ way
climbs chain at_most j [] k same top few = by (outer_in chain j) (ap (λ (i : ℕ). is_inner chain i) same ∙ top) where
  by : (o : Option ℕ) → is_some o ≡ false → nats_from chain at_most o ≡ []
  by None e = refl
  by (Some i) e = absurd (false≢true (sym e))
climbs chain [] j (i ∷ way) k c top few = absurd (omega (arith, few))
climbs chain (b ∷ rest) j (i ∷ way) k c top few =
    let fewer : length way ≤ length rest = omega (arith, few) in
    ap (nats_from chain (b ∷ rest)) c.0 ∙ ap (λ (l : List ℕ). i ∷ l) (climbs chain rest i way k c.1 top fewer)

-- it ends at NAT k
last_of : (chain : List Behind) (j : ℕ) (way : List ℕ) (k : ℕ) → Climb chain j way k → last_nat j way ≡ k
last_of chain j [] k same = same
last_of chain j (i ∷ way) k c = last_of chain i way k c.1

length_more : (way : List ℕ) (k : ℕ) → length (way ++ k ∷ []) ≤ suc (length way)
length_more [] k = omega arith
length_more (i ∷ way) k = let ih = length_more way k in omega (arith, ih)

-- an endpoint from which a datagram goes out, where each NAT is behind another once at most
pub record Outgoing : Type 0 where
  pub lab : Lab
  pub H : List Full
  pub m : ℕ
  pub src : Ep
  pub once : each_once lab.chain ≡ true

module _ (outgoing : Outgoing) where
  open outgoing use {lab, H, m, src, once}

  abbrev Past : List ℕ → Ep → Ep → Type 0
  Past way inside dst = EntersPast lab H m src way inside dst

  abbrev In : ℕ → ℕ → Option Ep
  In k port = let_in lab.topology (nat_pasts lab H) m k src port

  -- past one NAT more
  past_more : (way : List ℕ) (k : ℕ) (inside : Ep) {u : Ep} (dst : Ep) → Past way inside u → dst.ip ≡ (nat_set_up lab.topology k).external → In k dst.port ≡ Some u
      → Past (way ++ k ∷ []) inside dst
  past_more [] k inside dst same ip enters = (dst, ip, enters ∙ ap (λ (e : Ep). Some e) (sym same), refl)
  past_more (i ∷ way) k inside {u} dst p ip enters = (p.0, p.1, p.2, past_more way k p.0 dst p.3 ip enters)

  -- the NATs from where it ends up to NAT k
  record Passed (at_most : List Behind) (j k : ℕ) (inside dst : Ep) : Type 0 where
    way : List ℕ
    climb : Climb lab.chain j way k
    past : Past (j ∷ way) inside dst
    few : length way ≤ length at_most

  ends_at : (at_most : List Behind) (k : ℕ) (dst : Ep) {u : Ep} → In k dst.port ≡ Some u → dst.ip ≡ (nat_set_up lab.topology k).external → (j : ℕ) (x : Ep)
      → comes_to k u ≡ comes_to j x → Passed at_most j k x dst
  ends_at at_most k dst {u} enters ip j x e =
      let number : k ≡ j = ap (nat_in k) e in
      let who : u ≡ x = ap (inside_in u) e in
      record {
        way = [];
        climb = sym number;
        past = subst (λ (i : ℕ). Past (i ∷ []) x dst) number (dst, ip, enters ∙ ap (λ (y : Ep). Some y) who, refl);
        few = omega arith;
      }

  passed : (at_most : List Behind) (k : ℕ) (dst : Ep) (o : Option Ep) → In k dst.port ≡ o → dst.ip ≡ (nat_set_up lab.topology k).external → (j : ℕ) (x : Ep)
      → goes_in lab.topology lab.chain (nat_pasts lab H) m src at_most k o ≡ comes_to j x → Passed at_most j k x dst
  passed at_most k dst None enters ip j x e = absurd (false≢true (ap comes e))
  passed [] k dst (Some u) enters ip j x e = ends_at [] k dst enters ip j x e
  passed (b ∷ rest) k dst (Some u) enters ip j x e = by (inner_at lab.topology lab.chain k u.ip) refl e
      (λ (q : ℕ) (same : u.ip ≡ (nat_set_up lab.topology q).external). passed rest q u (In q u.port) refl same j x) where
        by : (o : Option ℕ) → inner_at lab.topology lab.chain k u.ip ≡ o
            → unwrap_or (option_map (λ (q : ℕ). goes_in lab.topology lab.chain (nat_pasts lab H) m src rest q (In q u.port)) o) (comes_to k u) ≡ comes_to j x
            → ((q : ℕ) → u.ip ≡ (nat_set_up lab.topology q).external
            → goes_in lab.topology lab.chain (nat_pasts lab H) m src rest q (In q u.port) ≡ comes_to j x → Passed rest j q x u)
            → Passed (b ∷ rest) j k x dst
        by None at f ih = ends_at (b ∷ rest) k dst enters ip j x f
        by (Some q) at f ih =
            let w = within lab.topology lab.chain k q u.ip once at in
            let p = ih q w.external f in
            let few : length (p.way ++ k ∷ []) ≤ suc (length p.way) = length_more p.way k in
            let fewer : length p.way ≤ length rest = p.few in
            record {
              way = p.way ++ k ∷ [];
              climb = one_more lab.chain j p.way q k p.climb w.outer;
              past = past_more (j ∷ p.way) k x dst p.past ip enters;
              few = omega (arith, few, fewer);
            }

module _ (lab : Lab) (H : List Full) (m : ℕ) (src dst : Ep) (c : ClientNode) (chained : IsChained lab) (in_ : IsLetIn lab H m src dst c) where
  all_passed : Passed (record { lab = lab; H = H; m = m; src = src; once = once_of lab.topology lab.chain chained }) lab.chain c.nat in_.outer c.inside dst
  all_passed = passed (record { lab = lab; H = H; m = m; src = src; once = once_of lab.topology lab.chain chained }) lab.chain in_.outer dst
      (let_in lab.topology (nat_pasts lab H) m in_.outer src dst.port) refl (in_.external ∙ address_there lab.topology in_.outer in_.row in_.there)
      c.nat c.inside in_.enters

  its_way : nats_from lab.chain lab.chain (outer_in lab.chain c.nat) ≡ all_passed.way
  its_way = climbs lab.chain lab.chain c.nat all_passed.way in_.outer all_passed.climb in_.outermost all_passed.few

  -- it came in past each NAT of the client's way
  pub enters_past : EntersPast lab H m src (nats_of lab c) c.inside dst
  enters_past = subst (λ (way : List ℕ). EntersPast lab H m src (c.nat ∷ way) c.inside dst) (sym its_way) all_passed.past

  -- and first past the outermost one
  pub is_outermost : outermost lab c ≡ in_.outer
  is_outermost = ap (last_nat c.nat) its_way ∙ last_of lab.chain c.nat all_passed.way in_.outer all_passed.climb

pub enters_by_its_way : EachEntersByItsWay
enters_by_its_way lab H m src dst c chained in_ = enters_past lab H m src dst c chained in_
