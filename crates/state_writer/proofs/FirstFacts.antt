-- What nodes keep before any record.
use Rattle.state_writer.proofs.Words.{Bool, ClientNode, Cone, List, Node, None, Option, Restricted, Some, TopologyState, [], ap, at_node, client_due, client_facts, client_is, drop, drop_all, drop_more, facts_from, facts_of, false, first_among, first_facts, first_phase, get_or, get_or_from_slice_get, if◌then◌else◌, inl, inr, length, listed, map, mentions, new_journal, next_due, nodes, qualification, refl, relay_due, relay_facts, relay_is, relay_mentions, slice_get, slice_get_cases, slice_get_within, sym, touched, true, ℕ, ◌++◌, ◌+◌, ◌<◌, ◌∙◌, ◌∷◌, ◌≡◌, ◌≤◌, ◌⊎◌}

-- of a client its first phase, and that it is due at once
pub first_of_client : (t : TopologyState) (c : ClientNode) → client_facts t c (new_journal 0) 0 ≡ client_is (if c.cone_try then Cone else Restricted) None (Some 0) ∷ []
unfolding qualification client_due next_due first_phase mentions first_among listed touched
first_of_client t c = by c.cone_try refl where
  by : (b : Bool) → c.cone_try ≡ b → client_facts t c (new_journal 0) 0 ≡ client_is (if c.cone_try then Cone else Restricted) None (Some 0) ∷ []
  by true is = rw is refl
  by false is = rw is refl

-- of a relay that it isn't due
pub first_of_relay : relay_facts (new_journal 0) 0 ≡ relay_is None ∷ []
unfolding relay_due relay_mentions first_among listed touched
first_of_relay = refl

none_there : {A B : Type 0} (x : A) → None ≡ Some x → B
none_there x e = absurd cc

module _ (t : TopologyState) (n : ℕ) where
  -- of each node, and of those behind it
  pub one_first : (a : Node) → slice_get (nodes t) n ≡ Some a → first_facts t n ≡ map (at_node n) (facts_of t [] (new_journal 0) 0 a) ++ first_facts t (n + 1)
  one_first a is =
      let within : n < length (nodes t) = slice_get_within (nodes t) n a is in
      let here : get_or (nodes t) n a ≡ a = get_or_from_slice_get (nodes t) n a a is in
      ap (λ (l : List Node). facts_from t (λ k. []) (λ k. new_journal 0) 0 n l) (drop_more (nodes t) n a within ∙ ap (λ (x : Node). x ∷ drop (n + 1) (nodes t)) here)

  -- of none behind the last one
  pub no_first : slice_get (nodes t) n ≡ None → first_facts t n ≡ []
  no_first none = by (slice_get_cases (nodes t) n).1 where
    by : ((x : Node) × (n < length (nodes t)) × (slice_get (nodes t) n ≡ Some x) × (get_or (nodes t) n x ≡ x)) ⊎ ((length (nodes t) ≤ n) × (slice_get (nodes t) n ≡ None)) → first_facts t n ≡ []
    by (inl (x, within, some, same)) = none_there x (sym none ∙ some)
    by (inr (past, same)) = ap (facts_from t (λ k. []) (λ k. new_journal 0) 0 n) (drop_all n (nodes t) past)
