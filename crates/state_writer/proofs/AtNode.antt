-- What a record changed of its node, by what the node is.
use Rattle.state_writer.proofs.Words.{ClientNode, Full, List, NatNode, NativeNode, None, RelayNode, Result, ServerNode, SinkState, Some, TopologyState, WritesFacts, Writing, [], at_node, concerned, concerned_at, concerned_lines, forgotten_facts, is_restart, known_facts, length, map, node_at, refl, subst, void_if, voids, ℕ, ◌++◌, ◌≡◌}
use Rattle.topology.specs.declared.node.Node.TheVariants as row

module _ (t : TopologyState) (H : List Full) (r : Full) where
  -- it has none
  pub no_node : r.node ≡ None → concerned_at t H r r.node ≡ []
  no_node none = rw none refl

  module _ (n : ℕ) (node : r.node ≡ Some n) where
    pub not_there : node_at t n ≡ None → concerned_at t H r r.node ≡ []
    not_there none = rw (node, none) refl

    pub at_server : (a : ServerNode) → node_at t n ≡ Some (row.Server a) → concerned_at t H r r.node ≡ []
    at_server a there = rw (node, there) refl

    pub at_native : (a : NativeNode) → node_at t n ≡ Some (row.Native a) → concerned_at t H r r.node ≡ []
    at_native a there = rw (node, there) refl

    pub at_nat : (a : NatNode) → node_at t n ≡ Some (row.Nat a) → map (at_node n) (void_if (is_restart r.act) ++ forgotten_facts t r.asked) ≡ concerned_at t H r r.node
    at_nat a there = rw (node, there) refl

    pub at_client : (c : ClientNode) → node_at t n ≡ Some (row.Client c) → map (at_node n) (void_if (voids r) ++ known_facts t r H n) ≡ concerned_at t H r r.node
    at_client c there = rw (node, there) refl

    pub at_relay : (q : RelayNode) → node_at t n ≡ Some (row.Relay q) → map (at_node n) (void_if (voids r) ++ known_facts t r H n) ≡ concerned_at t H r r.node
    at_relay q there = rw (node, there) refl

-- the lines on what a record concerned, by the world and the number of records before it
pub of_record : {E : Type 0} (t u : TopologyState) (i m : ℕ) (H : List Full) (r : Full) (a b : SinkState) (result : Result (Unit {0}) E)
    → u ≡ t → m ≡ r.moment → i ≡ length H → WritesFacts {E = E} u (Some i) m a b (concerned u H r) result → Writing {E = E} a b (concerned_lines t H r) result
of_record {E} t u i m H r a b result same at number w =
    subst (λ (x : TopologyState). Writing {E = E} a b (concerned_lines x H r) result) same
    (subst (λ (x : ℕ). WritesFacts {E = E} u (Some (length H)) x a b (concerned u H r) result) at
    (subst (λ (x : ℕ). WritesFacts {E = E} u (Some x) m a b (concerned u H r) result) number w))
