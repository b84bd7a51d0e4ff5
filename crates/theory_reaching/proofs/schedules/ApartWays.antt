-- Two ways that end at different NATs share none: from each NAT one way leads outwards. So what one client sends leaves the NATs of
-- the other as they were.
use Rattle.theory_reaching.proofs.Words.{All-contains, All-from_recursion, AllByRecursion, Behind, Bool, ClientNode, Contains, EntersPast, Ep, Full, KeepsToItsWay, Lab, List, NatEntry, None, Option, Out, Passing, Some, [], ap, arith, client_at, cond, each_pair, false, false≢true, is_inner, is_some, last_nat, lets_in, nat_history, nat_of, nat_tests, nats_from, nats_of, outer_in, outermost, outs_at, refl, subst, sym, true, unwrap_or, way_by, way_from, ℕ, ◌==◌, ◌∙◌, ◌∷◌, ◌≡◌}

-- OUTWARDS

-- these NATs lead outwards from NAT j to the last one
abbrev Leads : List Behind → ℕ → List ℕ → ℕ → Type 0
Leads chain j [] last = j ≡ last
Leads chain j (i ∷ way) last = (outer_in chain j ≡ Some i) × Leads chain i way last

-- some do
abbrev LeadTo : List Behind → ℕ → ℕ → Type 0
LeadTo chain last j = (way : List ℕ) × Leads chain j way last

-- from each NAT of a way
abbrev FromEach : List Behind → List Behind → ℕ → Option ℕ → Type 0
FromEach chain at_most k o = AllByRecursion (LeadTo chain (last_nat k (nats_from chain at_most o))) (k ∷ nats_from chain at_most o)

from_each : (chain at_most : List Behind) (k : ℕ) → FromEach chain at_most k (outer_in chain k)
from_each chain [] k = by (outer_in chain k) where
  by : (o : Option ℕ) → FromEach chain [] k o
  by None = (([], refl), tt)
  by (Some i) = (([], refl), tt)
from_each chain (b ∷ rest) k = by (outer_in chain k) refl (from_each chain rest) where
  by : (o : Option ℕ) → outer_in chain k ≡ o → ((i : ℕ) → FromEach chain rest i (outer_in chain i)) → FromEach chain (b ∷ rest) k o
  by None at ih = (([], refl), tt)
  by (Some i) at ih = let on = ih i in ((i ∷ on.0.0, (at, on.0.1)), on)

-- to one last NAT
one_last : (chain : List Behind) (j : ℕ) (way other : List ℕ) (k l : ℕ) → is_inner chain k ≡ false → is_inner chain l ≡ false → Leads chain j way k
    → Leads chain j other l → k ≡ l
one_last chain j [] [] k l top top' a b = sym a ∙ b
one_last chain j [] (i ∷ other) k l top top' a b =
    absurd (false≢true (sym top ∙ ap (is_inner chain) (sym a) ∙ ap (λ (o : Option ℕ). is_some o) b.0))
one_last chain j (i ∷ way) [] k l top top' a b =
    absurd (false≢true (sym top' ∙ ap (is_inner chain) (sym b) ∙ ap (λ (o : Option ℕ). is_some o) a.0))
one_last chain j (i ∷ way) (h ∷ other) k l top top' a b =
    let same : i ≡ h = ap (λ (o : Option ℕ). unwrap_or o i) (sym a.0 ∙ b.0) in
    one_last chain i way other k l top top' a.1 (subst (λ (z : ℕ). Leads chain z other l) (sym same) b.1)

-- WHAT WAS LET OUT

-- the outermost NATs of two clients are behind no other, and differ
pub record WaysApart (lab : Lab) (c d : ClientNode) : Type 0 where
  pub outside : is_inner lab.chain (outermost lab c) ≡ false
  pub outside_too : is_inner lab.chain (outermost lab d) ≡ false
  pub differ : outermost lab c ≡ outermost lab d → ⊥

module _ (lab : Lab) (c d : ClientNode) (apart : WaysApart lab c d) where
  -- no NAT of the one's way is on the other's
  not_on : (k : ℕ) → LeadTo lab.chain (outermost lab d) k → Contains (nats_of lab c) k → ⊥
  not_on k leads on =
      let first = All-contains (LeadTo lab.chain (outermost lab c)) (nats_of lab c) k
      (All-from_recursion (LeadTo lab.chain (outermost lab c)) (nats_of lab c) (from_each lab.chain lab.chain c.nat)) on in
      apart.differ (one_last lab.chain k first.0 leads.0 (outermost lab c) (outermost lab d) apart.outside apart.outside_too first.1 leads.1)

  -- so what passed the one's passed none of the other's
  none_out : (k : ℕ) → LeadTo lab.chain (outermost lab d) k → (ps : List Passing) → AllByRecursion (λ (p : Passing). Contains (nats_of lab c) p.nat) ps
      → outs_at k ps ≡ []
  none_out k leads [] all = refl
  none_out k leads (p ∷ ps) all = by (p.nat == k) refl (none_out k leads ps all.1) where
    by : (b : Bool) → (p.nat == k) ≡ b → outs_at k ps ≡ [] → cond b (Out p.datagram ∷ outs_at k ps) (outs_at k ps) ≡ []
    by false e ih = ih
    by true e ih = let same : p.nat ≡ k = grind (arith, nat_tests) in absurd (not_on k leads (subst (Contains (nats_of lab c)) same all.0))

-- a record of a client whose way lies apart from another one's
pub record ApartRecord : Type 0 where
  pub lab : Lab
  pub H : List Full
  pub q : Full
  pub n : ℕ
  pub c : ClientNode
  pub d : ClientNode
  pub apart : WaysApart lab c d
  pub node : q.node ≡ Some n
  pub there : client_at lab.topology n ≡ Some c
  pub keeps : KeepsToItsWay lab q
  pub nats : (k : ℕ) → (q.node ≡ Some k → ⊥) → outs_at k q.passed ≡ [] → nat_history lab k (q ∷ H) ≡ nat_history lab k H

module _ (apart_record : ApartRecord) where
  open apart_record use {lab, H, q, n, c, d, apart, node, there, keeps, nats}

  its_way : way_from lab q.node ≡ nats_of lab c
  its_way = ap (λ (o : Option ℕ). way_from lab o) node ∙ ap (way_by lab) there

  passed_its : AllByRecursion (λ (p : Passing). Contains (nats_of lab c) p.nat) q.passed
  passed_its = subst (λ (way : List ℕ). AllByRecursion (λ (p : Passing). Contains way p.nat) q.passed) its_way keeps

  -- and these have the histories that they had, which the record's node is none of
  stays : (k : ℕ) → (k ≡ n → ⊥) → LeadTo lab.chain (outermost lab d) k → nat_history lab k (q ∷ H) ≡ nat_history lab k H
  stays k other leads = nats k (λ same. other (ap (λ (o : Option ℕ). unwrap_or o k) (sym same ∙ node))) (none_out lab c d apart k leads q.passed passed_its)

  -- so have all of the other's way
  pub all_stay : AllByRecursion (λ (k : ℕ). k ≡ n → ⊥) (nats_of lab d)
      → AllByRecursion (λ (k : ℕ). nat_history lab k (q ∷ H) ≡ nat_history lab k H) (nats_of lab d)
  all_stay others = each_pair stays (nats_of lab d) others (from_each lab.chain lab.chain d.nat)

-- NATs with the histories that they had let in what they let in
pub entered_before : (lab : Lab) (H G : List Full) (m : ℕ) (src : Ep) (way : List ℕ) (inside dst : Ep)
    → AllByRecursion (λ (k : ℕ). nat_history lab k G ≡ nat_history lab k H) way → EntersPast lab G m src way inside dst → EntersPast lab H m src way inside dst
entered_before lab H G m src [] inside dst stay same = same
entered_before lab H G m src (k ∷ way) inside dst stay e = (
  e.0,
  e.1,
  ap (λ (h : List NatEntry). lets_in (nat_of lab k) h m src e.0.port) (sym stay.0) ∙ e.2,
  entered_before lab H G m src way e.0 dst stay.1 e.3,
)
