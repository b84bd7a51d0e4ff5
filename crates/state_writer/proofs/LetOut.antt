-- What NATs let out of a record, by whose it is.
use Rattle.state_writer.proofs.Words.{Acted, ClientNode, Err, Follows, Full, Grown, IsClientNode, IsTopology, Lab, List, Mark, Node, NodeFact, None, OfNode, Ok, Option, Passing, Result, SinkState, Some, TopologyState, WritesFacts, [], acted, acts, ap, arith, as_client, as_nat, client_at, does, drop, each_node, false≢true, flat_map, flat_map-append, flat_map-cons, get_or, idles, is_chain, is_nat, is_some, length, marks_of, node_at, of_node, option_and_then, passed_is_walked, passing_facts, refl, rests, reverse, same_Some, subst, sym, take, take_rest, true, walk_marked, walk_of, ℕ, ◌++◌, ◌-◌, ◌<◌, ◌∙◌, ◌∷◌, ◌≡◌, ◌≤◌}
use Rattle.topology.specs.declared.node.Node.TheVariants as row
use Rattle.state_writer.proofs.Sequence.{facts_both, facts_broken_off}

no_some : {A B : Type 0} (x : A) → None ≡ Some x → B
no_some x e = absurd cc

module _ (lab : Lab) (H : List Full) (r : Full) (follows : Follows lab H r) where
  -- of no node nothing is let out
  pub nothing_of_none : r.node ≡ None → r.passed ≡ []
  nothing_of_none none = by (acted lab H r follows) where
    by : Acted lab H r → r.passed ≡ []
    by (idles entry address handed late passed) = passed
    by (does n a e act) = no_some n (sym none ∙ act.node)

  -- nor of one that isn't there, or is no client
  pub nothing_of_others : (n : ℕ) → r.node ≡ Some n → client_at lab.topology n ≡ None → r.passed ≡ []
  nothing_of_others n node other = by (acted lab H r follows) where
    by : Acted lab H r → r.passed ≡ []
    by (idles entry address handed late passed) = passed
    by (does k (row.Client c) e act) = no_some c (sym other ∙ ap (λ (m : ℕ). client_at lab.topology m) (same_Some n k (sym node ∙ act.node)) ∙ rw act.there refl)
    by (does k (row.Server a) e act) = act.passed
    by (does k (row.Nat a) e act) = act.passed
    by (does k (row.Relay a) e act) = act.passed
    by (does k (row.Native a) e act) = act.passed

  -- of a client's, what walks show by its marks
  pub walked_of_client : (n : ℕ) (c : ClientNode) → r.node ≡ Some n → node_at lab.topology n ≡ Some (row.Client c) → IsTopology lab.topology
      → is_chain lab.topology lab.chain ≡ true → Grown lab (r ∷ H)
      → reverse r.passed ≡ flat_map (walk_marked (walk_of lab (r ∷ H) r.moment c)) (marks_of r.first r.made)
  walked_of_client n c node there keeps rules grown = by (of_node lab H r n (row.Client c) follows node there) where
    by : OfNode lab H r n (row.Client c) → reverse r.passed ≡ flat_map (walk_marked (walk_of lab (r ∷ H) r.moment c)) (marks_of r.first r.made)
    by (rests nothing) = rw (nothing.passed, nothing.made) refl
    by (acts e act) = passed_is_walked lab H r n c e keeps rules grown act

-- ---- mark by mark

-- the first mark and the others, as slices have them
pub first_mark : (ms : List Mark) (x : Mark) → 1 ≤ length ms → ms ≡ get_or ms 0 x ∷ take (length ms - 1) (drop 1 ms)
first_mark [] x some = absurd (omega (arith, some))
first_mark (m ∷ ms) x some = ap (λ (rest : List Mark). m ∷ rest) (sym (take_rest (m ∷ ms) 1))

-- a slice without a first one has none
pub no_marks : (ms : List Mark) → length ms < 1 → ms ≡ []
no_marks [] none = refl
no_marks (m ∷ ms) none = absurd (omega (arith, none))

-- what is told by the first, and then by the others
pub by_marks : (t : TopologyState) (walks : Mark → List Passing) (m : Mark) (ms : List Mark)
    → flat_map (passing_facts t) (flat_map walks (m ∷ ms)) ≡ flat_map (passing_facts t) (walks m) ++ flat_map (passing_facts t) (flat_map walks ms)
by_marks t walks m ms = ap (flat_map (passing_facts t)) (flat_map-cons walks m ms) ∙ flat_map-append (passing_facts t) (walks m) (flat_map walks ms)

-- a client's NAT is one
nat_is : (o : Option Node) → is_some (option_and_then as_nat o) ≡ true → is_nat o ≡ true
nat_is None is = absurd (false≢true is)
nat_is (Some (row.Nat a)) is = refl
nat_is (Some (row.Server a)) is = absurd (false≢true is)
nat_is (Some (row.Client a)) is = absurd (false≢true is)
nat_is (Some (row.Relay a)) is = absurd (false≢true is)
nat_is (Some (row.Native a)) is = absurd (false≢true is)

client_is : (o : Option Node) (c : ClientNode) → option_and_then as_client o ≡ Some c → o ≡ Some (row.Client c)
client_is None c e = no_some c e
client_is (Some (row.Client a)) c e = ap (λ (x : ClientNode). Some (row.Client x)) (same_Some a c e)
client_is (Some (row.Server a)) c e = no_some c e
client_is (Some (row.Nat a)) c e = no_some c e
client_is (Some (row.Relay a)) c e = no_some c e
client_is (Some (row.Native a)) c e = no_some c e

pub client_there : (t : TopologyState) (n : ℕ) (c : ClientNode) → client_at t n ≡ Some c → node_at t n ≡ Some (row.Client c)
client_there t n c e = client_is (node_at t n) c e

pub client_nat : (t : TopologyState) (n : ℕ) (c : ClientNode) → IsTopology t → client_at t n ≡ Some c → is_nat (node_at t c.nat) ≡ true
client_nat t n c keeps there =
    let rules : IsClientNode t c = each_node t n (row.Client c) keeps (client_there t n c there) in
    nat_is (node_at t c.nat) rules.rules.behind

-- the lines by the first mark, and then those by the others
pub marks_written : {E : Type 0} (t : TopologyState) (i : Option ℕ) (m : ℕ) (walks : Mark → List Passing) (ms : List Mark) (x : Mark) (a b c : SinkState) (r : Result (Unit {0}) E)
    → 1 ≤ length ms → WritesFacts {E = E} t i m a b (flat_map (passing_facts t) (walks (get_or ms 0 x))) (Ok tt)
    → WritesFacts {E = E} t i m b c (flat_map (passing_facts t) (flat_map walks (take (length ms - 1) (drop 1 ms)))) r
    → WritesFacts {E = E} t i m a c (flat_map (passing_facts t) (flat_map walks ms)) r
marks_written {E} t i m walks ms x a b c r some first others =
    let rest : List Mark = take (length ms - 1) (drop 1 ms) in
    subst (λ (all : List Mark). WritesFacts {E = E} t i m a c (flat_map (passing_facts t) (flat_map walks all)) r) (sym (first_mark ms x some))
    (subst (λ (fs : List NodeFact). WritesFacts {E = E} t i m a c fs r) (sym (by_marks t walks (get_or ms 0 x) rest))
    (facts_both t i m a b c (flat_map (passing_facts t) (walks (get_or ms 0 x))) (flat_map (passing_facts t) (flat_map walks rest)) r first others))

-- the sink failed at the first
pub marks_unwritten : {E : Type 0} (t : TopologyState) (i : Option ℕ) (m : ℕ) (walks : Mark → List Passing) (ms : List Mark) (x : Mark) (a b : SinkState) (e f : E)
    → 1 ≤ length ms → WritesFacts {E = E} t i m a b (flat_map (passing_facts t) (walks (get_or ms 0 x))) (Err e)
    → WritesFacts {E = E} t i m a b (flat_map (passing_facts t) (flat_map walks ms)) (Err f)
marks_unwritten {E} t i m walks ms x a b e f some first =
    let rest : List Mark = take (length ms - 1) (drop 1 ms) in
    subst (λ (all : List Mark). WritesFacts {E = E} t i m a b (flat_map (passing_facts t) (flat_map walks all)) (Err f)) (sym (first_mark ms x some))
    (subst (λ (fs : List NodeFact). WritesFacts {E = E} t i m a b fs (Err f)) (sym (by_marks t walks (get_or ms 0 x) rest))
    (facts_broken_off t i m a b b (flat_map (passing_facts t) (walks (get_or ms 0 x))) (flat_map (passing_facts t) (flat_map walks rest)) e f first))
