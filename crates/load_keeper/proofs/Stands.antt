-- A keeper that heard the next record stands for the history with it.
use Rattle.load_keeper.proofs.Words.{AreKeptAfter, Bool, Entry, Ep, Full, Ip6, IsToldOf, KeepsLoadsOf, List, Load, LoadKeeper, NODES_MAX, Node, NodeKept, NodeLoads, None, Option, Record, Saying, Some, StandsForLoads, TopologyState, [], ap, arith, begins_anew, effect_at, entries_by_marks, entry_peer, false, get_or, get_or_past, handed_of, if◌then◌else◌, inl, inr, is_handing_in, is_node, is_restart, is_some, kept_at, length, length-map, load_at, load_by_act, load_given, load_that_goes_on, loads, loads_released, made_loads, map, mentions_at, mentions_if, nat_eq, nat_tests, node_after, node_after_at, node_at, node_if, node_kept, nodes, nothing_kept, now, numbered_mentions, record_of, refl, released_records, sayings_of, says_by, slice_get, slice_get_cases, source_of_entry, subst, sym, true, unspecified, unwrap_or, ℕ, ◌++◌, ◌+◌, ◌<◌, ◌==◌, ◌∙◌, ◌∷◌, ◌≡◌, ◌≤◌, ◌⊎◌}
use Rattle.load_keeper.proofs.Numbers.{records_counted}
use Rattle.load_keeper.proofs.Said.{said_is, released_is}
use Rattle.load_keeper.proofs.Steps.{OneRecord, keeps_nothing, step_of_other, step_of_restart, step_of_own}
use Rattle.load_keeper.proofs.Whole.{IsWholeEntry, IsToldWhole, peer_by, source_by, whole, says_alike, released_alike, kept_alike}
use Rattle.load_keeper.proofs.Wires.{by_marks, entries_are, given_is}

-- what the calls of `hear` leave
pub record Heard (t : TopologyState) (k k' : LoadKeeper) (r : Record) (peer : Option Ip6) (from : Option Ep) (said : List Saying) : Type 0 where
  pub says : said ≡ says_by r (load_by_act k.packets k.wire.items r.act) (unwrap_or peer unspecified) from (kept_at k.nodes.items r.node) (is_some r.handed)
  pub wire : k'.wire.items ≡ k.wire.items ++ entries_by_marks r.marks (loads_released r.fate (kept_at k.nodes.items r.node) r.moment.0 (unwrap_or peer unspecified)
      ++ load_that_goes_on r.fate (load_by_act k.packets k.wire.items r.act) ∷ [])
  pub nodes : AreKeptAfter t r peer from (load_by_act k.packets k.wire.items r.act) k.nodes.items k'.nodes.items
  pub packets : k'.packets ≡ (if is_handing_in r.act then k.packets + 1 else k.packets)

-- nothing is kept of a node that isn't there
kept_past : (ns : List NodeLoads) (n : ℕ) → length ns ≤ n → kept_at ns (Some n) ≡ nothing_kept
kept_past ns n past = get_or_past (map node_kept ns) n nothing_kept (omega (arith, past, length-map ns node_kept))

node_past : (t : TopologyState) (n : ℕ) → node_at t n ≡ None → length (nodes t) ≤ n
node_past t n none = by (slice_get_cases (nodes t) n).1 where
  by : (((x : Node) × (n < length (nodes t)) × (slice_get (nodes t) n ≡ Some x) × (get_or (nodes t) n x ≡ x)) ⊎ ((length (nodes t) ≤ n) × (slice_get (nodes t) n ≡ None))) → length (nodes t) ≤ n
  by (inl h) = let e : Some h.0 ≡ None = sym h.2 ∙ none in absurd (cc e)
  by (inr h) = h.0

node_within : (t : TopologyState) (n : ℕ) (a : Node) → node_at t n ≡ Some a → n < length (nodes t)
node_within t n a some = by (slice_get_cases (nodes t) n).1 where
  by : (((x : Node) × (n < length (nodes t)) × (slice_get (nodes t) n ≡ Some x) × (get_or (nodes t) n x ≡ x)) ⊎ ((length (nodes t) ≤ n) × (slice_get (nodes t) n ≡ None))) → n < length (nodes t)
  by (inl h) = h.1
  by (inr h) = let e : Some a ≡ None = sym some ∙ h.1 in absurd (cc e)

module _ (t : TopologyState) (k : LoadKeeper) (H : List Full) (stands : StandsForLoads t k H) where
  -- what a record's node keeps is what the history says of it, be there one or not
  keeps_of : (o : Option ℕ) → KeepsLoadsOf (loads t H).records (mentions_at t H o) (now H) (kept_at k.nodes.items o)
  keeps_of None = keeps_nothing (loads t H).records (now H)
  keeps_of (Some n) = by (node_at t n) refl where
    by : (a : Option Node) → node_at t n ≡ a → KeepsLoadsOf (loads t H).records (mentions_if H n a) (now H) (kept_at k.nodes.items (Some n))
    by None none = subst (λ (s : NodeKept). KeepsLoadsOf (loads t H).records [] (now H) s) (sym (kept_past k.nodes.items n (omega (arith, stands.count, node_past t n none)))) (keeps_nothing (loads t H).records (now H))
    by (Some a) some = stands.each n a some

  module _ (r : Full) (peer : Option Ip6) (from : Option Ep) (heard : IsToldWhole t H r peer from) where
    abbrev given : Option Load
    given = load_given (loads t H) r

    given_by : load_by_act k.packets k.wire.items r.act ≡ given
    given_by = rw (stands.packets, stands.wire) (sym (given_is t H r heard.delivers))

    about_is : entry_peer r.entry ≡ unwrap_or peer unspecified
    about_is = by r.entry heard.entry where
      by : (o : Option Entry) → IsWholeEntry (effect_at (node_if t r.node) r.fate) r peer from o → entry_peer o ≡ unwrap_or peer unspecified
      by None none = rw none.0 refl
      by (Some e) some = ap (λ (p : Option Ip6). unwrap_or p unspecified) some.2

    source_is : source_of_entry r.entry ≡ from
    source_is = by r.entry heard.entry where
      by : (o : Option Entry) → IsWholeEntry (effect_at (node_if t r.node) r.fate) r peer from o → source_of_entry o ≡ from
      by None none = sym none.1
      by (Some e) some = some.3

    -- what it says
    says_it : (said : List Saying) → said ≡ says_by (record_of r) (load_by_act k.packets k.wire.items r.act) (unwrap_or peer unspecified) from (kept_at k.nodes.items r.node) (is_some (handed_of r))
        → said ≡ sayings_of t H (loads t H) r
    says_it said says = says ∙ ap (λ (l : Option Load). says_by (record_of r) l (unwrap_or peer unspecified) from (kept_at k.nodes.items r.node) (is_some (handed_of r))) given_by
        ∙ sym (said_is (loads t H) (mentions_at t H r.node) (now H) (kept_at k.nodes.items r.node) (keeps_of r.node) r heard.later (unwrap_or peer unspecified) about_is from source_is)

    module _ (k' : LoadKeeper) (said : List Saying) (was : Heard t k k' (record_of r) peer from said) where
      released_are : loads_released r.fate (kept_at k.nodes.items r.node) r.moment (unwrap_or peer unspecified) ≡ map (load_at (loads t H).records) (released_records t H r)
      released_are = sym (released_is (loads t H) (mentions_at t H r.node) (now H) (kept_at k.nodes.items r.node) (keeps_of r.node) r heard.later (unwrap_or peer unspecified) about_is)

      wire_is : k'.wire.items ≡ (loads t (r ∷ H)).wire
      wire_is = was.wire ∙ rw (given_by, released_are, stands.wire) (ap (λ (xs : List (Option Load)). (loads t H).wire ++ xs)
          (sym (entries_are t H (loads t H) r (map (load_at (loads t H).records) (released_records t H r))) ∙ sym (by_marks r.first r.made (made_loads t H (loads t H) r))))

      packets_are : k'.packets ≡ (loads t (r ∷ H)).packets
      packets_are = was.packets ∙ rw stands.packets refl

      -- what each node keeps
      each_is : (n : ℕ) (a : Node) → node_at t n ≡ Some a
          → KeepsLoadsOf ((loads t H).records ++ given ∷ []) (numbered_mentions (r ∷ H) n a) r.moment (node_after_at t (record_of r) peer from given r.node n (kept_at k.nodes.items (Some n)))
      each_is n a some = by r.node refl where
        one : OneRecord
        one = record { ls = (loads t H).records; H = H; n = n; a = a; r = r; l = given; counted = records_counted t H; later = heard.later }

        by : (o : Option ℕ) → r.node ≡ o → KeepsLoadsOf ((loads t H).records ++ given ∷ []) (numbered_mentions (r ∷ H) n a) r.moment (node_after_at t (record_of r) peer from given o n (kept_at k.nodes.items (Some n)))
        by None none = step_of_other one (kept_at k.nodes.items (Some n)) (rw none refl) (stands.each n a some)
        by (Some m) node = of (nat_eq m n) refl where
          of : (b : Bool) → nat_eq m n ≡ b → KeepsLoadsOf ((loads t H).records ++ given ∷ []) (numbered_mentions (r ∷ H) n a) r.moment
              (if b then node_after (node_at t n) (record_of r) peer from given (kept_at k.nodes.items (Some n)) else kept_at k.nodes.items (Some n))
          of false other = step_of_other one (kept_at k.nodes.items (Some n)) (rw node (turned false other)) (stands.each n a some) where
            turned : (b : Bool) → nat_eq m n ≡ b → (n == m) ≡ b
            turned b is = grind (arith, nat_tests)
          of true same = rw some (own (is_restart r.act) refl) where
            here : m ≡ n
            here = grind (arith, nat_tests)

            its : is_node n r.node ≡ true
            its = rw (node, here) (grind (arith, nat_tests))

            node_is : node_if t r.node ≡ Some a
            node_is = rw (node, here) some

            own : (b : Bool) → is_restart r.act ≡ b → KeepsLoadsOf ((loads t H).records ++ given ∷ []) (numbered_mentions (r ∷ H) n a) r.moment (node_after (Some a) (record_of r) peer from given (kept_at k.nodes.items (Some n)))
            own true anew = let none : node_after (Some a) (record_of r) peer from given (kept_at k.nodes.items (Some n)) ≡ nothing_kept = rw anew refl in
                subst (λ (z : NodeKept). KeepsLoadsOf ((loads t H).records ++ given ∷ []) (numbered_mentions (r ∷ H) n a) r.moment z) (sym none)
                (step_of_restart one (kept_at k.nodes.items (Some n)) its anew)
            own false on = step_of_own one (kept_at k.nodes.items (Some n)) (record { ip = record { 0 = [] }; port = 0 }) peer from (stands.each n a some) its on
                (subst (λ (b : Option Node). IsWholeEntry (effect_at b r.fate) r peer from r.entry) node_is heard.entry) (λ none. subst (λ (b : Option Node). begins_anew b r.fate ≡ false) node_is (heard.changed none))

      pub stands_then : StandsForLoads t k' (r ∷ H)
      stands_then = record {
        packets = packets_are;
        wire = wire_is;
        count = was.nodes.count ∙ stands.count;
        few = subst (λ (c : ℕ). c ≤ NODES_MAX) (sym was.nodes.count) stands.few;
        each = λ n a some. subst (λ (s : NodeKept). KeepsLoadsOf (loads t (r ∷ H)).records (numbered_mentions (r ∷ H) n a) r.moment s)
            (sym (was.nodes.each n (subst (λ (c : ℕ). n < c) (sym stands.count) (node_within t n a some)) ∙ ap (λ (l : Option Load). node_after_at t (record_of r) peer from l r.node n (kept_at k.nodes.items (Some n))) given_by))
            (each_is n a some);
      }

-- as many as there are, where there is no node of the next number
pub all_counted : (t : TopologyState) (k : ℕ) → k ≤ length (nodes t) → is_some (node_at t k) ≡ false → k ≡ length (nodes t)
all_counted t k within none = by (slice_get_cases (nodes t) k).1 where
  by : (((x : Node) × (k < length (nodes t)) × (slice_get (nodes t) k ≡ Some x) × (get_or (nodes t) k x ≡ x)) ⊎ ((length (nodes t) ≤ k) × (slice_get (nodes t) k ≡ None))) → k ≡ length (nodes t)
  by (inl h) = let e : true ≡ false = sym (ap is_some h.2) ∙ none in absurd (cc e)
  by (inr h) = let past = h.0 in omega (arith, within, past)

-- THE CALLS OF `hear`

-- what they leave, one after the other: k1 when the wire is brought on, k2 when the nodes are, and k3 when packets are counted
pub record Calls (t : TopologyState) (k k1 k2 k3 : LoadKeeper) (r : Record) (peer : Option Ip6) (from : Option Ep) (said : List Saying) : Type 0 where
  pub cleared : List Saying
  pub load : Option Load
  pub who : Ip6
  pub kept : NodeKept
  pub released : List (Option Load)
  pub is_cleared : cleared ≡ []
  pub is_given : load ≡ load_by_act k.packets k.wire.items r.act
  pub is_who : who ≡ unwrap_or peer unspecified
  pub is_kept : kept ≡ kept_at k.nodes.items r.node
  pub is_said : said ≡ cleared ++ says_by r load who from kept (is_some r.handed)
  pub is_released : released ≡ loads_released r.fate kept r.moment.0 who
  pub wire1 : k1.wire.items ≡ k.wire.items ++ entries_by_marks r.marks (released ++ load_that_goes_on r.fate load ∷ [])
  pub packets1 : k1.packets ≡ k.packets
  pub nodes1 : k1.nodes ≡ k.nodes
  pub nodes2 : AreKeptAfter t r peer from load k1.nodes.items k2.nodes.items
  pub wire2 : k2.wire ≡ k1.wire
  pub packets2 : k2.packets ≡ k1.packets
  pub packets3 : k3.packets ≡ (if is_handing_in r.act then k2.packets + 1 else k2.packets)
  pub wire3 : k3.wire ≡ k2.wire
  pub nodes3 : k3.nodes ≡ k2.nodes

heard_by : (t : TopologyState) (k k1 k2 k3 : LoadKeeper) (r : Record) (peer : Option Ip6) (from : Option Ep) (said : List Saying) → Calls t k k1 k2 k3 r peer from said → Heard t k k3 r peer from said
heard_by t k k1 k2 k3 r peer from said c = record {
  says = c.is_said ∙ rw (c.is_cleared, c.is_given, c.is_who, c.is_kept) refl;
  wire = ap (λ w. w.items) (c.wire3 ∙ c.wire2) ∙ c.wire1 ∙ rw (c.is_released, c.is_given, c.is_who, c.is_kept) refl;
  nodes = subst (λ (l : Option Load). AreKeptAfter t r peer from l k.nodes.items k3.nodes.items) c.is_given
      (subst (λ (ns : List NodeLoads). AreKeptAfter t r peer from c.load ns k3.nodes.items) (ap (λ v. v.items) c.nodes1)
      (subst (λ (ns : List NodeLoads). AreKeptAfter t r peer from c.load k1.nodes.items ns) (ap (λ v. v.items) (sym c.nodes3)) c.nodes2));
  packets = c.packets3 ∙ rw (c.packets2, c.packets1) refl;
}

-- the same of the peer and the source that the record's entry has
whole_heard : (t : TopologyState) (k k' : LoadKeeper) (H : List Full) (x : Full) (peer : Option Ip6) (from : Option Ep) (said : List Saying) → IsToldOf t H x (record_of x) peer from
    → Heard t k k' (record_of x) peer from said → Heard t k k' (record_of x) (peer_by x.entry) (source_by x.entry) said
whole_heard t k k' H x peer from said told h =
    let l = load_by_act k.packets k.wire.items x.act in
    let s = kept_at k.nodes.items x.node in
    record {
      says = h.says ∙ says_alike t x peer from told.about l s (is_some (handed_of x));
      wire = h.wire ∙ ap (λ (ls : List (Option Load)). k.wire.items ++ entries_by_marks (record_of x).marks (ls ++ load_that_goes_on x.fate l ∷ [])) (released_alike t x peer from told.about s);
      nodes = record {
        count = h.nodes.count;
        each = λ n within. h.nodes.each n within ∙ kept_alike t x peer from told.about l n (kept_at k.nodes.items (Some n));
      };
      packets = h.packets;
    }

-- and so it stands for the history with the record, and says what that says
pub hears : (t : TopologyState) (k k1 k2 k3 : LoadKeeper) (r : Record) (peer : Option Ip6) (from : Option Ep) (said : List Saying) → Calls t k k1 k2 k3 r peer from said
    → (H : List Full) (x : Full) → StandsForLoads t k H → IsToldOf t H x r peer from → StandsForLoads t k3 (x ∷ H) × (said ≡ sayings_of t H (loads t H) x)
hears t k k1 k2 k3 r peer from said c H x stands heard =
    let same : record_of x ≡ r = heard.told in
    let told : IsToldOf t H x (record_of x) peer from = subst (λ (y : Record). IsToldOf t H x y peer from) (sym same) heard in
    let was : Heard t k k3 (record_of x) peer from said = subst (λ (y : Record). Heard t k k3 y peer from said) (sym same) (heard_by t k k1 k2 k3 r peer from said c) in
    let it = whole_heard t k k3 H x peer from said told was in
    let is = whole t H x peer from told in
    (stands_then t k H stands x (peer_by x.entry) (source_by x.entry) is k3 said it, says_it t k H stands x (peer_by x.entry) (source_by x.entry) is said it.says)
