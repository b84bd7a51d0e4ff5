-- The lists of all nodes, of which one changes.
use Rattle.load_keeper.proofs.Words.{AllByRecursion, AreEmpty, AreKeptAfter, Bool, Ep, Ip6, KeepsLoadsOf, List, Load, LoadKeeper, Node, NodeKept, NodeLoads, None, Option, Record, Some, StandsForLoads, TopologyState, Touch, [], ap, arith, false, filter, get_or, get_or-map, get_or-set_other, get_or-set_same, if◌then◌else◌, in_order, is_lower_ip6, kept_at, length, length-map, length-set, map, map-append, map-set, mentions_by, nat_eq, nat_tests, node_after, node_at, node_kept, nothing_kept, put_by, refl, reverse, reverse-append, set, subst, suc, sym, take, take_more, true, zero, ℕ, ◌+◌, ◌<◌, ◌∙◌, ◌∷◌, ◌≡◌, ◌≤◌}
use Rattle.load_keeper.proofs.Steps.{keeps_nothing_by}

none_of_empty : (ns : List NodeLoads) → AllByRecursion (λ (s : NodeLoads). node_kept s ≡ nothing_kept) ns → (n : ℕ) → get_or (map node_kept ns) n nothing_kept ≡ nothing_kept
none_of_empty [] all n = refl
none_of_empty (s ∷ ns) all zero = all.0
none_of_empty (s ∷ ns) all (suc n) = none_of_empty ns all.1 n

-- a keeper that heard nothing
pub stands_new : (t : TopologyState) (k : LoadKeeper) → k.packets ≡ 0 → k.wire.items ≡ [] → AreEmpty t k.nodes.items → StandsForLoads t k []
stands_new t k packets wire empty = record {
  packets = packets;
  wire = wire;
  count = empty.count;
  few = empty.few;
  each = λ n a some. subst (λ (s : NodeKept). KeepsLoadsOf [] (mentions_by a []) 0 s) (sym (none_of_empty k.nodes.items empty.each n)) (keeps_nothing_by [] 0 a);
}

-- ONE OF THEM CHANGES

module _ (t : TopologyState) (r : Record) (peer : Option Ip6) (from : Option Ep) (l : Option Load) (old : List NodeLoads) where
  pub none_changes : r.node ≡ None → AreKeptAfter t r peer from l old old
  none_changes none = record { count = refl; each = λ n lt. rw none refl }

  pub past_changes : (i : ℕ) → r.node ≡ Some i → length old ≤ i → AreKeptAfter t r peer from l old old
  past_changes i node past = record { count = refl; each = λ n lt. rw node (by n lt (nat_eq i n) refl) } where
    by : (n : ℕ) → n < length old → (b : Bool) → nat_eq i n ≡ b → kept_at old (Some n) ≡ (if b then node_after (node_at t n) r peer from l (kept_at old (Some n)) else kept_at old (Some n))
    by n lt false other = refl
    by n lt true same = let e : i ≡ n = grind (arith, nat_tests) in absurd (omega (arith, e, lt, past))

  pub one_changes : (i : ℕ) (new : List NodeLoads) (y : NodeLoads) → r.node ≡ Some i → i < length old → new ≡ set old i y → node_kept y ≡ node_after (node_at t i) r peer from l (kept_at old (Some i))
      → AreKeptAfter t r peer from l old new
  one_changes i new y node within is kept = record { count = ap length is ∙ length-set old i y; each = λ n lt. rw (is, node) (by n (nat_eq i n) refl) } where
    mapped : map node_kept (set old i y) ≡ set (map node_kept old) i (node_kept y)
    mapped = map-set node_kept old i y

    by : (n : ℕ) → (b : Bool) → nat_eq i n ≡ b → kept_at (set old i y) (Some n) ≡ (if b then node_after (node_at t n) r peer from l (kept_at old (Some n)) else kept_at old (Some n))
    by n false other = ap (λ (ss : List NodeKept). get_or ss n nothing_kept) mapped ∙ get_or-set_other (map node_kept old) i n (node_kept y) nothing_kept (grind (arith, nat_tests))
    by n true same = let e : i ≡ n = grind (arith, nat_tests) in subst (λ (k : ℕ). kept_at (set old i y) (Some k) ≡ node_after (node_at t k) r peer from l (kept_at old (Some k))) e
        (ap (λ (ss : List NodeKept). get_or ss i nothing_kept) mapped ∙ get_or-set_same (map node_kept old) i (node_kept y) nothing_kept (omega (arith, within, length-map old node_kept)) ∙ kept)

  -- the same, of what was there and of what it became
  pub one_noted : (i : ℕ) {before : NodeLoads} (y : NodeLoads) {a : Option Node} → r.node ≡ Some i → i < length old → before ≡ get_or old i before → a ≡ node_at t i
      → node_kept y ≡ node_after a r peer from l (node_kept before) → AreKeptAfter t r peer from l old (set old i y)
  one_noted i {before} y {a} node within was at kept = one_changes i (set old i y) y node within refl
      (kept ∙ ap (λ (b : Option Node). node_after b r peer from l (node_kept before)) at
      ∙ ap (node_after (node_at t i) r peer from l) (sym (get_or-map node_kept old i before nothing_kept within ∙ ap node_kept (sym was))))

-- PEERS IN ORDER

module _ (test : Ip6 → Bool) where
  abbrev order_of : List Touch → List Ip6
  order_of ts = in_order is_lower_ip6 (filter test (reverse (map (λ (t : Touch). t.who) ts)))

  pub order_more : (before after : List Ip6) (ts : List Touch) (i : ℕ) (d : Touch) → i < length ts → before ≡ order_of (take i ts)
      → after ≡ (if test (get_or ts i d).who then put_by is_lower_ip6 (get_or ts i d).who before else before) → after ≡ order_of (take (i + 1) ts)
  order_more before after ts i d lt was more = more ∙ ap (λ (ps : List Ip6). if test (get_or ts i d).who then put_by is_lower_ip6 (get_or ts i d).who ps else ps) was
      ∙ sym (ap order_of (take_more ts i d lt) ∙ ap (λ (ps : List Ip6). in_order is_lower_ip6 (filter test (reverse ps))) (map-append (λ (t : Touch). t.who) (take i ts) (get_or ts i d ∷ []))
      ∙ ap (λ (ps : List Ip6). in_order is_lower_ip6 (filter test ps)) (reverse-append (map (λ (t : Touch). t.who) (take i ts)) ((get_or ts i d).who ∷ []))
      ∙ by (test (get_or ts i d).who) refl) where
        by : (b : Bool) → test (get_or ts i d).who ≡ b → in_order is_lower_ip6 (filter test ((get_or ts i d).who ∷ reverse (map (λ (t : Touch). t.who) (take i ts))))
            ≡ (if b then put_by is_lower_ip6 (get_or ts i d).who (order_of (take i ts)) else order_of (take i ts))
        by true is = rw is refl
        by false is = rw is refl
