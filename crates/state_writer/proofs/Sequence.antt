-- Lines on facts that are written one after the other.
use Rattle.state_writer.proofs.Words.{Err, Fact, List, NodeFact, Ok, Option, Result, SinkState, TopologyState, WritesFacts, Writing, at_node, both_written, ended_early, fact_line, map, map-append, subst, sym, ℕ, ◌++◌}

module _ {E F : Type 0} (t : TopologyState) (i : Option ℕ) (m : ℕ) (a b c : SinkState) (fs gs : List NodeFact) where
  -- the same of facts
  pub facts_both : (r : Result (Unit {0}) E) → WritesFacts {E = F} t i m a b fs (Ok tt) → WritesFacts {E = E} t i m b c gs r → WritesFacts {E = E} t i m a c (fs ++ gs) r
  facts_both r p q = subst (λ (lines : List (List ℕ)). Writing {E = E} a c lines r) (sym (map-append (fact_line t i m) fs gs)) (both_written a b c (map (fact_line t i m) fs) (map (fact_line t i m) gs) r p q)

  pub facts_broken_off : (e : E) (f : F) → WritesFacts {E = E} t i m a b fs (Err e) → WritesFacts {E = F} t i m a b (fs ++ gs) (Err f)
  facts_broken_off e f w = subst (λ (lines : List (List ℕ)). Writing {E = F} a b lines (Err f)) (sym (map-append (fact_line t i m) fs gs)) (ended_early a b (map (fact_line t i m) fs) (map (fact_line t i m) gs) e f w)

module _ {E F : Type 0} (t : TopologyState) (i : Option ℕ) (m : ℕ) (a b c : SinkState) (k : ℕ) (fs gs : List Fact) where
  -- the same of facts on one node
  pub node_both : (r : Result (Unit {0}) E) → WritesFacts {E = F} t i m a b (map (at_node k) fs) (Ok tt) → WritesFacts {E = E} t i m b c (map (at_node k) gs) r
      → WritesFacts {E = E} t i m a c (map (at_node k) (fs ++ gs)) r
  node_both r p q = subst (λ (xs : List NodeFact). WritesFacts {E = E} t i m a c xs r) (sym (map-append (at_node k) fs gs)) (facts_both t i m a b c (map (at_node k) fs) (map (at_node k) gs) r p q)

  pub node_broken_off : (e : E) (f : F) → WritesFacts {E = E} t i m a b (map (at_node k) fs) (Err e) → WritesFacts {E = F} t i m a b (map (at_node k) (fs ++ gs)) (Err f)
  node_broken_off e f w = subst (λ (xs : List NodeFact). WritesFacts {E = F} t i m a b xs (Err f)) (sym (map-append (at_node k) fs gs)) (facts_broken_off t i m a b c (map (at_node k) fs) (map (at_node k) gs) e f w)
