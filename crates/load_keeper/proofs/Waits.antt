-- Where a load waits, and where it is held: some listed peer has a packet with it, where something that is kept of one carries it.
use Rattle.load_keeper.proofs.Words.{Bool, Ep, Full, HeldLoad, HeldRecord, IfSome, Ip6, KeepsLoadsOf, KeptLoad, List, Load, LoadKeeper, Loads, Mention, Node, NodeKept, NodeLoads, None, Option, Some, StandsForLoads, TopologyState, [], ap, arith, carries, carries_load, false, first_node, get_or, held_for, holding_node, is_held_among, is_load, keeping_node, keeps_load, length, list_any, listed, listed_are, lists_peer, load_at, loads, loads_held, loads_known_or_none, loads_waiting, map, node_kept, nodes, nothing_kept, now, numbered_mentions, position_from, refl, same_ip6, same_ip6-true, slice_get, subst, suc, sym, true, waiting_node, waiting_records, waits_among, ℕ, ◌&&◌, ◌+◌, ◌<◌, ◌||◌, ◌∙◌, ◌∷◌, ◌≡◌, ◌≤◌}
use Rattle.load_keeper.proofs.Touches.{same_turned}
use Rattle.load_keeper.proofs.Asked.{waiting_is, held_is, load_of_held, listed_is}

-- LISTS OF WHICH ONE PASSES

of_four : (a b c d : Bool) → (a || b) || (c || d) ≡ (a || c) || (b || d)
of_four true b c d = refl
of_four false true true d = refl
of_four false true false d = refl
of_four false false true d = refl
of_four false false false d = refl

module _ {A : Type 0} where
  any_alike : (f g : A → Bool) → ((x : A) → f x ≡ g x) → (xs : List A) → list_any f xs ≡ list_any g xs
  any_alike f g alike [] = refl
  any_alike f g alike (x ∷ xs) = rw (alike x, any_alike f g alike xs) refl

  any_of_map : {B : Type 0} (f : B → Bool) (h : A → B) (xs : List A) → list_any f (map h xs) ≡ list_any (λ (x : A). f (h x)) xs
  any_of_map f h [] = refl
  any_of_map f h (x ∷ xs) = ap (λ (b : Bool). f (h x) || b) (any_of_map f h xs)

  any_none : (xs : List A) → list_any (λ (x : A). false) xs ≡ false
  any_none [] = refl
  any_none (x ∷ xs) = any_none xs

  any_where : (b : Bool) (f : A → Bool) (xs : List A) → list_any (λ (x : A). b && f x) xs ≡ b && list_any f xs
  any_where true f xs = refl
  any_where false f xs = any_none xs

  any_either : (f g : A → Bool) (xs : List A) → list_any (λ (x : A). f x || g x) xs ≡ list_any f xs || list_any g xs
  any_either f g [] = refl
  any_either f g (x ∷ xs) = ap (λ (b : Bool). (f x || g x) || b) (any_either f g xs) ∙ of_four (f x) (g x) (list_any f xs) (list_any g xs)

-- LISTED PEERS, OF WHOM SOMETHING IS KEPT

module _ (lists : Ip6 → Bool) (ps : List Ip6) (are : (q : Ip6) → list_any (same_ip6 q) ps ≡ lists q) where
  -- of a thing that is kept: its peer is one of them
  one_peer : (q : Ip6) (c : Bool) → list_any (λ (p : Ip6). lists p && (same_ip6 p q && c)) ps ≡ c && lists q
  one_peer q false = any_alike (λ (p : Ip6). lists p && (same_ip6 p q && false)) (λ (p : Ip6). false) (λ p. none (lists p) (same_ip6 p q)) ps ∙ any_none ps where
    none : (a b : Bool) → a && (b && false) ≡ false
    none true true = refl
    none true false = refl
    none false b = refl
  one_peer q true = any_alike (λ (p : Ip6). lists p && (same_ip6 p q && true)) (λ (p : Ip6). lists q && same_ip6 q p) (λ p. by p (same_ip6 p q) refl) ps ∙ any_where (lists q) (same_ip6 q) ps
      ∙ rw (are q) (twice (lists q)) where
        twice : (b : Bool) → b && b ≡ b
        twice true = refl
        twice false = refl

        none : (b : Bool) → b && false ≡ false
        none true = refl
        none false = refl

        is_true : (b : Bool) → b && true ≡ b
        is_true true = refl
        is_true false = refl

        by : (p : Ip6) (b : Bool) → same_ip6 p q ≡ b → lists p && (same_ip6 p q && true) ≡ lists q && same_ip6 q p
        by p true is = rw (sym (same_turned p q), is) (is_true (lists p) ∙ ap lists (same_ip6-true p q is) ∙ sym (is_true (lists q)))
        by p false is = rw (sym (same_turned p q), is) (none (lists p) ∙ sym (none (lists q)))

  each_kept : (c : KeptLoad → Bool) (ks : List KeptLoad) → list_any (λ (p : Ip6). lists p && list_any (λ (k : KeptLoad). same_ip6 p k.who && c k) ks) ps
      ≡ list_any (λ (k : KeptLoad). c k && lists k.who) ks
  each_kept c [] = any_alike (λ (p : Ip6). lists p && false) (λ (p : Ip6). false) (λ p. none (lists p)) ps ∙ any_none ps where
    none : (b : Bool) → b && false ≡ false
    none true = refl
    none false = refl
  each_kept c (k ∷ ks) = any_alike (λ (p : Ip6). lists p && ((same_ip6 p k.who && c k) || list_any (λ (x : KeptLoad). same_ip6 p x.who && c x) ks))
      (λ (p : Ip6). (lists p && (same_ip6 p k.who && c k)) || (lists p && list_any (λ (x : KeptLoad). same_ip6 p x.who && c x) ks))
      (λ p. apart (lists p) (same_ip6 p k.who && c k) (list_any (λ (x : KeptLoad). same_ip6 p x.who && c x) ks)) ps
      ∙ any_either (λ (p : Ip6). lists p && (same_ip6 p k.who && c k)) (λ (p : Ip6). lists p && list_any (λ (x : KeptLoad). same_ip6 p x.who && c x) ks) ps
      ∙ rw (one_peer k.who (c k), each_kept c ks) refl where
        apart : (a b d : Bool) → a && (b || d) ≡ (a && b) || (a && d)
        apart true b d = refl
        apart false b d = refl

-- WHAT IS KEPT OF ONE

module _ (l : Load) (p : Ip6) where
  waiting_carries : (ks : List KeptLoad) → list_any (is_load l) (loads_waiting ks p) ≡ list_any (λ (k : KeptLoad). same_ip6 p k.who && carries_load false l k) ks
  waiting_carries [] = refl
  waiting_carries (k ∷ ks) = by (waiting_carries ks) (same_ip6 p k.who) refl k.from refl where
    by : list_any (is_load l) (loads_waiting ks p) ≡ list_any (λ (x : KeptLoad). same_ip6 p x.who && carries_load false l x) ks → (b : Bool) → same_ip6 p k.who ≡ b → (o : Option Ep) → k.from ≡ o
        → list_any (is_load l) (loads_waiting (k ∷ ks) p) ≡ list_any (λ (x : KeptLoad). same_ip6 p x.who && carries_load false l x) (k ∷ ks)
    by more false is o from = rw is more
    by more true is None from = rw (is, from) (kept (is_load l k.load) more) where
      kept : (b : Bool) → list_any (is_load l) (loads_waiting ks p) ≡ list_any (λ (x : KeptLoad). same_ip6 p x.who && carries_load false l x) ks
          → b || list_any (is_load l) (loads_waiting ks p) ≡ (b && true) || list_any (λ (x : KeptLoad). same_ip6 p x.who && carries_load false l x) ks
      kept true more = refl
      kept false more = more
    by more true is (Some f) from = rw (is, from) (kept (is_load l k.load) more) where
      kept : (b : Bool) → list_any (is_load l) (loads_waiting ks p) ≡ list_any (λ (x : KeptLoad). same_ip6 p x.who && carries_load false l x) ks
          → list_any (is_load l) (loads_waiting ks p) ≡ (b && false) || list_any (λ (x : KeptLoad). same_ip6 p x.who && carries_load false l x) ks
      kept true more = more
      kept false more = more

  held_carries : (ks : List KeptLoad) → list_any (λ (h : HeldLoad). is_load l h.load) (loads_held ks p) ≡ list_any (λ (k : KeptLoad). same_ip6 p k.who && carries_load true l k) ks
  held_carries [] = refl
  held_carries (k ∷ ks) = by (held_carries ks) (same_ip6 p k.who) refl k.from refl where
    by : list_any (λ (h : HeldLoad). is_load l h.load) (loads_held ks p) ≡ list_any (λ (x : KeptLoad). same_ip6 p x.who && carries_load true l x) ks → (b : Bool) → same_ip6 p k.who ≡ b → (o : Option Ep) → k.from ≡ o
        → list_any (λ (h : HeldLoad). is_load l h.load) (loads_held (k ∷ ks) p) ≡ list_any (λ (x : KeptLoad). same_ip6 p x.who && carries_load true l x) (k ∷ ks)
    by more false is o from = rw is more
    by more true is (Some f) from = rw (is, from) (kept (is_load l k.load) more) where
      kept : (b : Bool) → list_any (λ (h : HeldLoad). is_load l h.load) (loads_held ks p) ≡ list_any (λ (x : KeptLoad). same_ip6 p x.who && carries_load true l x) ks
          → b || list_any (λ (h : HeldLoad). is_load l h.load) (loads_held ks p) ≡ (b && true) || list_any (λ (x : KeptLoad). same_ip6 p x.who && carries_load true l x) ks
      kept true more = refl
      kept false more = more
    by more true is None from = rw (is, from) (kept (is_load l k.load) more) where
      kept : (b : Bool) → list_any (λ (h : HeldLoad). is_load l h.load) (loads_held ks p) ≡ list_any (λ (x : KeptLoad). same_ip6 p x.who && carries_load true l x) ks
          → list_any (λ (h : HeldLoad). is_load l h.load) (loads_held ks p) ≡ (b && false) || list_any (λ (x : KeptLoad). same_ip6 p x.who && carries_load true l x) ks
      kept true more = more
      kept false more = more

-- ONE NODE

module _ (L : Loads) (l : Load) (j : List Mention) (m : ℕ) (s : NodeKept) (keeps : KeepsLoadsOf L.records j m s) where
  le_same : (n : ℕ) → n ≤ n
  le_same n = omega arith

  lists_are : (q : Ip6) → list_any (same_ip6 q) (listed j m) ≡ lists_peer s.touches m q
  lists_are q = listed_are j m q ∙ sym (listed_is L.records j m s keeps m (le_same m) q)

  pub waits_here : waits_among L l j m ≡ keeps_load false l m s
  waits_here = any_alike (λ (p : Ip6). list_any (carries L l) (waiting_records j m p)) (λ (p : Ip6). lists_peer s.touches m p && list_any (λ (k : KeptLoad). same_ip6 p k.who && carries_load false l k) s.kept) of_peer (listed j m)
      ∙ each_kept (lists_peer s.touches m) (listed j m) lists_are (carries_load false l) s.kept where
        of_peer : (p : Ip6) → list_any (carries L l) (waiting_records j m p) ≡ lists_peer s.touches m p && list_any (λ (k : KeptLoad). same_ip6 p k.who && carries_load false l k) s.kept
        of_peer p = sym (any_of_map (is_load l) (load_at L.records) (waiting_records j m p)) ∙ ap (list_any (is_load l)) (waiting_is L.records j m s keeps m (le_same m) p) ∙ by (lists_peer s.touches m p) refl where
          by : (b : Bool) → lists_peer s.touches m p ≡ b → list_any (is_load l) (loads_known_or_none s m p).waiting ≡ b && list_any (λ (k : KeptLoad). same_ip6 p k.who && carries_load false l k) s.kept
          by true is = rw is (waiting_carries l p s.kept)
          by false is = rw is refl

  pub is_held_here : is_held_among L l j m ≡ keeps_load true l m s
  is_held_here = any_alike (λ (p : Ip6). list_any (λ (h : HeldRecord). carries L l h.number) (held_for j m p))
      (λ (p : Ip6). lists_peer s.touches m p && list_any (λ (k : KeptLoad). same_ip6 p k.who && carries_load true l k) s.kept) of_peer (listed j m)
      ∙ each_kept (lists_peer s.touches m) (listed j m) lists_are (carries_load true l) s.kept where
        of_peer : (p : Ip6) → list_any (λ (h : HeldRecord). carries L l h.number) (held_for j m p) ≡ lists_peer s.touches m p && list_any (λ (k : KeptLoad). same_ip6 p k.who && carries_load true l k) s.kept
        of_peer p = sym (any_of_map (λ (h : HeldLoad). is_load l h.load) (load_of_held L.records j m s keeps m (le_same m)) (held_for j m p))
            ∙ ap (list_any (λ (h : HeldLoad). is_load l h.load)) (held_is L.records j m s keeps m (le_same m) p) ∙ by (lists_peer s.touches m p) refl where
              by : (b : Bool) → lists_peer s.touches m p ≡ b → list_any (λ (h : HeldLoad). is_load l h.load) (loads_known_or_none s m p).held ≡ b && list_any (λ (k : KeptLoad). same_ip6 p k.who && carries_load true l k) s.kept
              by true is = rw is (held_carries l p s.kept)
              by false is = rw is refl

-- ALL NODES

pub first_alike : (test : ℕ → Node → Bool) (passes : NodeKept → Bool) (n : ℕ) (nodes : List Node) (ns : List NodeLoads) → length ns ≡ length nodes
    → ((i : ℕ) (a : Node) → slice_get nodes i ≡ Some a → test (n + i) a ≡ passes (get_or (map node_kept ns) i nothing_kept))
    → first_node test n nodes ≡ position_from (λ (s : NodeLoads). passes (node_kept s)) n ns
first_alike test passes n [] [] count alike = refl
first_alike test passes n [] (s ∷ ns) count alike = absurd (omega (arith, count))
first_alike test passes n (a ∷ nodes) [] count alike = absurd (omega (arith, count))
first_alike test passes n (a ∷ nodes) (s ∷ ns) count alike =
    rw (first, first_alike test passes (n + 1) nodes ns (omega (arith, count)) rest) refl where
      first : test n a ≡ passes (node_kept s)
      first = let e : n + 0 ≡ n = omega arith in subst (λ (k : ℕ). test k a ≡ passes (node_kept s)) e (alike 0 a refl)

      rest : (i : ℕ) (b : Node) → slice_get nodes i ≡ Some b → test (n + 1 + i) b ≡ passes (get_or (map node_kept ns) i nothing_kept)
      rest i b some = let e : n + suc i ≡ n + 1 + i = omega arith in subst (λ (k : ℕ). test k b ≡ passes (get_or (map node_kept ns) i nothing_kept)) e (alike (suc i) b some)

module _ (t : TopologyState) (k : LoadKeeper) (H : List Full) (stands : StandsForLoads t k H) (l : Load) where
  -- a node that is found has a number that can be written
  small : (o : Option ℕ) → IfSome o (λ (n : ℕ). n < length k.nodes.items) → IfSome o (λ (n : ℕ). n < 65536)
  small None within = tt
  small (Some n) within = let few : length k.nodes.items ≤ 204 = stands.few in omega (arith, within, few)

  first_waits : waiting_node t H (loads t H) l ≡ keeping_node false l (now H) k.nodes.items
  first_waits = first_alike (λ (n : ℕ) (a : Node). waits_among (loads t H) l (numbered_mentions H n a) (now H)) (keeps_load false l (now H)) 0 (nodes t) k.nodes.items stands.count of where
    of : (i : ℕ) (a : Node) → slice_get (nodes t) i ≡ Some a → waits_among (loads t H) l (numbered_mentions H (0 + i) a) (now H) ≡ keeps_load false l (now H) (get_or (map node_kept k.nodes.items) i nothing_kept)
    of i a some = let e : i ≡ 0 + i = omega arith in
        subst (λ (n : ℕ). waits_among (loads t H) l (numbered_mentions H n a) (now H) ≡ keeps_load false l (now H) (get_or (map node_kept k.nodes.items) i nothing_kept)) e
        (waits_here (loads t H) l (numbered_mentions H i a) (now H) (get_or (map node_kept k.nodes.items) i nothing_kept) (stands.each i a some))

  first_holds : holding_node t H (loads t H) l ≡ keeping_node true l (now H) k.nodes.items
  first_holds = first_alike (λ (n : ℕ) (a : Node). is_held_among (loads t H) l (numbered_mentions H n a) (now H)) (keeps_load true l (now H)) 0 (nodes t) k.nodes.items stands.count of where
    of : (i : ℕ) (a : Node) → slice_get (nodes t) i ≡ Some a → is_held_among (loads t H) l (numbered_mentions H (0 + i) a) (now H) ≡ keeps_load true l (now H) (get_or (map node_kept k.nodes.items) i nothing_kept)
    of i a some = let e : i ≡ 0 + i = omega arith in
        subst (λ (n : ℕ). is_held_among (loads t H) l (numbered_mentions H n a) (now H) ≡ keeps_load true l (now H) (get_or (map node_kept k.nodes.items) i nothing_kept)) e
        (is_held_here (loads t H) l (numbered_mentions H i a) (now H) (get_or (map node_kept k.nodes.items) i nothing_kept) (stands.each i a some))

  module _ (m : ℕ) (at : m ≡ now H) (found written : Option ℕ) (within : IfSome found (λ (n : ℕ). n < length k.nodes.items)) (is : IfSome found (λ (n : ℕ). n < 65536) → written ≡ found) where
    pub names_waiting : found ≡ keeping_node false l m k.nodes.items → written ≡ waiting_node t H (loads t H) l
    names_waiting first = is (small found within) ∙ first ∙ ap (λ (n : ℕ). keeping_node false l n k.nodes.items) at ∙ sym first_waits

    pub names_holding : found ≡ keeping_node true l m k.nodes.items → written ≡ holding_node t H (loads t H) l
    names_holding first = is (small found within) ∙ first ∙ ap (λ (n : ℕ). keeping_node true l n k.nodes.items) at ∙ sym first_holds
