-- Slab, index and order together: what an address finds, and what a change or an addition leaves.
use Rattle.peer_list.proofs.Words.{AllByRecursion, AreDueButOnce, AreDueOnce, AreInOrder, AreInTurn, AreSound, BTreeMap, Bool, Entries, Equal, Greater, Ip6, IsOrdered, IsSince, IsSinceAll, IsStrictlySortedBy, Leads, Less, List, Listing, Millis, MutBor, NameEachOther, None, Option, Ordering, PEERS_MAX, RetainsPairs, Slab, Some, Updates, [], all_map, ap, arith, cases_eq, cmp_ip6, cmp_ip6_ties, cond, cons_option, count_by, entry_due, entry_for, entry_under, eq-eqb, eqb-false, eqb-true, false, false≢true, filter, find, get, get_or, inl, inr, insert_entry, is_at, is_eq, is_listed_at, is_of, is_some, keys_of, keys_without, length, listings_in, listings_of, lookup, match_ordering, nat_eq, not, refl, same_Some, same_ip6, same_ip6-self, same_ip6-true, subst, suc, sym, true, unwrap_or, zero, ℕ, ◌+◌, ◌∙◌, ◌∷◌, ◌≡◌, ◌≤◌}
use Rattle.std.specs.BTreeMap as map
use Rattle.slab.specs.Slab as slab
use Rattle.peer_list.proofs.OrderLemmas.{count_kept, turn_passing}

-- WHAT AN ADDRESS FINDS

-- in front stands the entry of the first address
shown : (s : Slab Listing) (pair : Ip6 × ℕ) (pairs : List (Ip6 × ℕ)) (a : Leads s pair) → listings_in s (pair ∷ pairs) ≡ a.listing ∷ listings_in s pairs
shown s pair pairs a = let at = a.at in rw at refl

pub find_is : (s : Slab Listing) (pairs : List (Ip6 × ℕ)) (p : Ip6) → AllByRecursion (Leads s) pairs → find (is_of p) (listings_in s pairs) ≡ entry_under s (lookup (is_at (cmp_ip6 p)) pairs)
find_is s [] p a = refl
find_is s (pair ∷ pairs) p a =
    ap (find (is_of p)) (shown s pair pairs a.0)
    ∙ ap (λ q. cond (same_ip6 p q) (Some a.0.listing) (find (is_of p) (listings_in s pairs))) a.0.who
    ∙ ap (λ b. cond b (Some a.0.listing) (find (is_of p) (listings_in s pairs))) (cmp_ip6_ties p pair.0)
    ∙ by_test (is_eq (cmp_ip6 p pair.0)) (find_is s pairs p a.1)
  where
    by_test : (b : Bool) → find (is_of p) (listings_in s pairs) ≡ entry_under s (lookup (is_at (cmp_ip6 p)) pairs)
        → cond b (Some a.0.listing) (find (is_of p) (listings_in s pairs)) ≡ entry_under s (cond b (Some pair.1) (lookup (is_at (cmp_ip6 p)) pairs))
    by_test true rest = sym a.0.at
    by_test false rest = rest

pub finds : (e : Entries) (p : Ip6) → NameEachOther e.slab e.index → find (is_of p) (listings_of e) ≡ entry_for e p
finds e p n = find_is e.slab e.index.entries p n.leads

-- a key that an address has leads to its entry
pub led : (s : Slab Listing) (pairs : List (Ip6 × ℕ)) (p : Ip6) (key : ℕ) → AllByRecursion (Leads s) pairs → lookup (is_at (cmp_ip6 p)) pairs ≡ Some key → Leads s (p, key)
led s [] p key a h = absurd (false≢true (ap is_some h))
led s (pair ∷ pairs) p key a h = by_test (is_eq (cmp_ip6 p pair.0)) refl h (led s pairs p key a.1) where
  by_test : (b : Bool) → is_eq (cmp_ip6 p pair.0) ≡ b → cond b (Some pair.1) (lookup (is_at (cmp_ip6 p)) pairs) ≡ Some key → (lookup (is_at (cmp_ip6 p)) pairs ≡ Some key → Leads s (p, key)) → Leads s (p, key)
  by_test true e h' rest =
      let same : p ≡ pair.0 = same_ip6-true p pair.0 (cmp_ip6_ties p pair.0 ∙ e) in
      let key_is : pair.1 ≡ key = ap (λ o. unwrap_or o 0) h' in
      record { listing = a.0.listing; at = ap (get s) (sym key_is) ∙ a.0.at; who = a.0.who ∙ sym same }
  by_test false e h' rest = rest h'

-- SOUND LISTINGS

length_in : (s : Slab Listing) (pairs : List (Ip6 × ℕ)) → AllByRecursion (Leads s) pairs → length (listings_in s pairs) ≡ length pairs
length_in s [] a = refl
length_in s (pair ∷ pairs) a = ap length (shown s pair pairs a.0) ∙ ap suc (length_in s pairs a.1)

all_in : (s : Slab Listing) (P : Ip6 → Type 0) (pairs : List (Ip6 × ℕ)) → AllByRecursion (Leads s) pairs → AllByRecursion P (keys_of pairs) → AllByRecursion (λ (l : Listing). P l.who) (listings_in s pairs)
all_in s P [] a h = tt
all_in s P (pair ∷ pairs) a h = subst (AllByRecursion (λ (l : Listing). P l.who)) (sym (shown s pair pairs a.0)) (subst P (sym a.0.who) h.0, all_in s P pairs a.1 h.1)

order_in : (s : Slab Listing) (pairs : List (Ip6 × ℕ)) → AllByRecursion (Leads s) pairs → IsStrictlySortedBy cmp_ip6 (keys_of pairs) → AreInOrder (listings_in s pairs)
unfolding IsStrictlySortedBy
order_in s [] a o = tt
order_in s (pair ∷ pairs) a o = subst AreInOrder (sym (shown s pair pairs a.0)) (
  all_in s (λ q. cmp_ip6 a.0.listing.who q ≡ Less) pairs a.1 (subst (λ r. AllByRecursion (λ q. cmp_ip6 r q ≡ Less) (keys_of pairs))
      (sym a.0.who) o.0),
  order_in s pairs a.1 o.1,
)

pub sound_of : (e : Entries) → NameEachOther e.slab e.index → AreSound (listings_of e)
sound_of e n = record {
  order = order_in e.slab e.index.entries n.leads n.order;
  few = let few = n.few in let same = length_in e.slab e.index.entries n.leads in omega (arith, few, same);
}

pub length_of : (e : Entries) → NameEachOther e.slab e.index → length (listings_of e) ≡ length e.index.entries
length_of e n = length_in e.slab e.index.entries n.leads

-- what holds of each entry holds of the listings
pub all_listings : (s : Slab Listing) (P : Listing → Type 0) (pairs : List (Ip6 × ℕ)) → ((key : ℕ) (l : Listing) → get s key ≡ Some l → P l) → AllByRecursion (Leads s) pairs → AllByRecursion P (listings_in s pairs)
all_listings s P [] h a = tt
all_listings s P (pair ∷ pairs) h a = subst (AllByRecursion P) (sym (shown s pair pairs a.0)) (h pair.1 a.0.listing a.0.at, all_listings s P pairs h a.1)

-- WHERE AN ENTRY IS CHANGED

-- t is s with another entry for the same address under a key
pub record Changes (s t : Slab Listing) (key : ℕ) (l new : Listing) : Type 0 where
  pub was : get s key ≡ Some l
  pub who : new.who ≡ l.who
  pub update : slab.Updates s t key (Some new)

module _ {s t : Slab Listing} {key : ℕ} {l new : Listing} (c : Changes s t key l new) where
  lead_changed : (pair : Ip6 × ℕ) → Leads s pair → Leads t pair
  lead_changed pair a = elim (cases_eq pair.1 key) [
    | inl same ↦
        let is : a.listing ≡ l = same_Some _ _ (sym a.at ∙ ap (get s) same ∙ c.was) in
        record { listing = new; at = ap (get t) same ∙ c.update.changed; who = c.who ∙ ap (λ (x : Listing). x.who) (sym is) ∙ a.who }
    | inr differs ↦ record { listing = a.listing; at = c.update.others pair.1 differs ∙ a.at; who = a.who }
  ]

  named_changed : (index : BTreeMap Ip6 ℕ) → NameEachOther s index → (k : ℕ) (x : Listing) → get t k ≡ Some x → map.get cmp_ip6 index x.who ≡ Some k
  named_changed index n k x h = elim (cases_eq k key) [
    | inl same ↦
        let is : x ≡ new = same_Some _ _ (sym h ∙ ap (get t) same ∙ c.update.changed) in
        ap (λ (y : Listing). map.get cmp_ip6 index y.who) is ∙ ap (map.get cmp_ip6 index) c.who ∙ n.named key l c.was ∙ ap Some (sym same)
    | inr differs ↦ n.named k x (sym (c.update.others k differs) ∙ h)
  ]

  pub names_changed : (index : BTreeMap Ip6 ℕ) → NameEachOther s index → NameEachOther t index
  names_changed index n = record { leads = all_map (Leads s) (Leads t) index.entries lead_changed n.leads; named = named_changed index n; order = n.order; few = n.few }

  pub once_changed : (before : Option (Millis × Ip6)) (keys : List ℕ) → before ≡ entry_due (get s key) → AreDueOnce s keys → AreDueButOnce t key before keys
  once_changed before keys was once k = once k ∙ ap (λ o. cond (is_some o) 1 0) (by_test (nat_eq k key) refl) where
    by_test : (b : Bool) → nat_eq k key ≡ b → entry_due (get s k) ≡ cond b before (entry_due (get t k))
    by_test true e = ap (λ i. entry_due (get s i)) (eqb-true k key e) ∙ sym was
    by_test false e = sym (ap entry_due (c.update.others k (eqb-false k key e)))

  pub since_changed : (m : ℕ) → IsSince m new.peer.touched → IsSinceAll m s → IsSinceAll m t
  since_changed m since all k x h = elim (cases_eq k key) [
    | inl same ↦ subst (λ (y : Listing). IsSince m y.peer.touched) (same_Some _ _ (sym c.update.changed ∙ ap (get t) (sym same) ∙ h)) since
    | inr differs ↦ all k x (sym (c.update.others k differs) ∙ h)
  ]

  -- each other address finds what it found
  pub entry_changed : (index : BTreeMap Ip6 ℕ) (p : Ip6) → NameEachOther s index → entry_under t (map.get cmp_ip6 index p) ≡ cond (same_ip6 p l.who) (Some new) (entry_under s (map.get cmp_ip6 index p))
  entry_changed index p n = by_test (same_ip6 p l.who) refl where
    other : (o : Option ℕ) → map.get cmp_ip6 index p ≡ o → same_ip6 p l.who ≡ false → entry_under t o ≡ entry_under s o
    other None e apart = refl
    other (Some k) e apart = elim (cases_eq k key) [
      | inl same ↦
          let there = led s index.entries p k n.leads e in
          let is : there.listing ≡ l = same_Some _ _ (sym there.at ∙ ap (get s) same ∙ c.was) in
          let who_is : l.who ≡ p = ap (λ (x : Listing). x.who) (sym is) ∙ there.who in
          absurd (false≢true (sym apart ∙ ap (same_ip6 p) who_is ∙ same_ip6-self p))
      | inr differs ↦ c.update.others k differs
    ]

    by_test : (b : Bool) → same_ip6 p l.who ≡ b → entry_under t (map.get cmp_ip6 index p) ≡ cond b (Some new) (entry_under s (map.get cmp_ip6 index p))
    by_test true e =
        let same : p ≡ l.who = same_ip6-true p l.who e in
        ap (λ q. entry_under t (map.get cmp_ip6 index q)) same ∙ ap (entry_under t) (n.named key l c.was) ∙ c.update.changed
    by_test false e = other (map.get cmp_ip6 index p) refl e

  -- the keys but this one stay in turn
  pub turn_changed : (keys : List ℕ) → AreInTurn s keys → AreInTurn t (keys_without key keys)
  turn_changed keys a = turn_passing s t (λ k. not (nat_eq k key)) keys (λ k h. c.update.others k (λ same. absurd (passes_not k (nat_eq k key) refl h same))) a where
    passes_not : (k : ℕ) (b : Bool) → nat_eq k key ≡ b → not b ≡ true → k ≡ key → ⊥
    passes_not k true e h same = false≢true h
    passes_not k false e h same = false≢true (sym e ∙ eq-eqb k key same)

-- WHERE ONE IS ADDED

-- t is s with one entry more under a key that was vacant
pub record Fills (s t : Slab Listing) (key : ℕ) (l : Listing) : Type 0 where
  pub vacant : get s key ≡ None
  pub update : slab.Updates s t key (Some l)

module _ {s t : Slab Listing} {key : ℕ} {l : Listing} (c : Fills s t key l) where
  lead_filled : (pair : Ip6 × ℕ) → Leads s pair → Leads t pair
  lead_filled pair a = elim (cases_eq pair.1 key) [
    | inl same ↦ absurd (false≢true (sym (ap is_some (sym a.at ∙ ap (get s) same ∙ c.vacant))))
    | inr differs ↦ record { listing = a.listing; at = c.update.others pair.1 differs ∙ a.at; who = a.who }
  ]

  pub leads_filled : (pairs : List (Ip6 × ℕ)) → AllByRecursion (Leads s) pairs → AllByRecursion (Leads t) (insert_entry cmp_ip6 pairs l.who key)
  leads_filled [] a = (record { listing = l; at = c.update.changed; who = refl }, tt)
  leads_filled (pair ∷ pairs) a = by_order (cmp_ip6 l.who pair.0) refl (leads_filled pairs a.1) where
    here : Leads t (l.who, key)
    here = record { listing = l; at = c.update.changed; who = refl }

    by_order : (o : Ordering) → cmp_ip6 l.who pair.0 ≡ o → AllByRecursion (Leads t) (insert_entry cmp_ip6 pairs l.who key)
        → AllByRecursion (Leads t) (match_ordering o ((l.who, key) ∷ pair ∷ pairs) ((pair.0, key) ∷ pairs) (pair ∷ insert_entry cmp_ip6 pairs l.who key))
    by_order Less e rest = (here, (lead_filled pair a.0, all_map (Leads s) (Leads t) pairs lead_filled a.1))
    by_order Equal e rest =
        let same : l.who ≡ pair.0 = same_ip6-true l.who pair.0 (cmp_ip6_ties l.who pair.0 ∙ ap is_eq e) in
        (record { listing = l; at = c.update.changed; who = same }, all_map (Leads s) (Leads t) pairs lead_filled a.1)
    by_order Greater e rest = (lead_filled pair a.0, rest)

  pub named_filled : (index more : BTreeMap Ip6 ℕ) → NameEachOther s index → map.get cmp_ip6 index l.who ≡ None
      → ((p : Ip6) → map.get cmp_ip6 more p ≡ cond (same_ip6 p l.who) (Some key) (map.get cmp_ip6 index p)) → (k : ℕ) (x : Listing)
      → get t k ≡ Some x → map.get cmp_ip6 more x.who ≡ Some k
  named_filled index more n none is k x h = elim (cases_eq k key) [
    | inl same ↦
        let new : x ≡ l = same_Some _ _ (sym h ∙ ap (get t) same ∙ c.update.changed) in
        is x.who ∙ ap (λ (y : Listing). cond (same_ip6 y.who l.who) (Some key) (map.get cmp_ip6 index x.who)) new ∙ ap (λ b. cond b (Some key) (map.get cmp_ip6 index x.who)) (same_ip6-self l.who) ∙ ap Some (sym same)
    | inr differs ↦
        let was : map.get cmp_ip6 index x.who ≡ Some k = n.named k x (sym (c.update.others k differs) ∙ h) in
        is x.who ∙ by_test x k was (same_ip6 x.who l.who) refl
  ] where
    by_test : (x : Listing) (k : ℕ) → map.get cmp_ip6 index x.who ≡ Some k → (b : Bool) → same_ip6 x.who l.who ≡ b → cond b (Some key) (map.get cmp_ip6 index x.who) ≡ Some k
    by_test x k was true e = absurd (false≢true (ap is_some (sym none ∙ ap (map.get cmp_ip6 index) (sym (same_ip6-true x.who l.who e)) ∙ was)))
    by_test x k was false e = was

  pub entry_filled : (index more : BTreeMap Ip6 ℕ) (p : Ip6) → NameEachOther s index
      → ((q : Ip6) → map.get cmp_ip6 more q ≡ cond (same_ip6 q l.who) (Some key) (map.get cmp_ip6 index q))
      → entry_under t (map.get cmp_ip6 more p) ≡ cond (same_ip6 p l.who) (Some l) (entry_under s (map.get cmp_ip6 index p))
  entry_filled index more p n is = ap (entry_under t) (is p) ∙ by_test (same_ip6 p l.who) where
    other : (o : Option ℕ) → map.get cmp_ip6 index p ≡ o → entry_under t o ≡ entry_under s o
    other None e = refl
    other (Some k) e = elim (cases_eq k key) [
      | inl same ↦ absurd (let there = led s index.entries p k n.leads e in false≢true (sym (ap is_some (sym there.at ∙ ap (get s) same ∙ c.vacant))))
      | inr differs ↦ c.update.others k differs
    ]

    by_test : (b : Bool) → entry_under t (cond b (Some key) (map.get cmp_ip6 index p)) ≡ cond b (Some l) (entry_under s (map.get cmp_ip6 index p))
    by_test true = c.update.changed
    by_test false = other (map.get cmp_ip6 index p) refl

-- WHERE SLAB AND INDEX HOLD THE SAME

module _ (s t : Slab Listing) (same : (k : ℕ) → get t k ≡ get s k) where
  lead_same : (pair : Ip6 × ℕ) → Leads s pair → Leads t pair
  lead_same pair a = record { listing = a.listing; at = same pair.1 ∙ a.at; who = a.who }

  pub names_same : (index more : BTreeMap Ip6 ℕ) → more.entries ≡ index.entries → NameEachOther s index → NameEachOther t more
  names_same index more is n = record {
    leads = subst (AllByRecursion (Leads t)) (sym is) (all_map (Leads s) (Leads t) index.entries lead_same n.leads);
    named = λ k x h. ap (λ (ps : List (Ip6 × ℕ)). lookup (is_at (cmp_ip6 x.who)) ps) is ∙ n.named k x (sym (same k) ∙ h);
    order = subst (λ (ps : List (Ip6 × ℕ)). IsStrictlySortedBy cmp_ip6 (keys_of ps)) (sym is) n.order;
    few = subst (λ (ps : List (Ip6 × ℕ)). length ps ≤ PEERS_MAX) (sym is) n.few;
  }

  pub listings_same : (pairs : List (Ip6 × ℕ)) → listings_in t pairs ≡ listings_in s pairs
  listings_same [] = refl
  listings_same (pair ∷ pairs) = ap (λ o. cons_option o (listings_in t pairs)) (same pair.1) ∙ ap (cons_option (get s pair.1)) (listings_same pairs)

  pub once_same : (keys : List ℕ) → AreDueOnce s keys → AreDueOnce t keys
  once_same keys o k = o k ∙ ap (λ x. cond (is_some (entry_due x)) 1 0) (sym (same k))

-- WHERE SOME ARE TAKEN OUT

abbrev pub keep_listed : ℕ → Option Listing → Option Listing
keep_listed n None = None
keep_listed n (Some l) = cond (is_listed_at n l) (Some l) None

-- what the closure keeps of a slab
module _ {F : Type 0} (step : F → ℕ → MutBor Listing → Bool → MutBor Listing → F → Type 0) (n : ℕ) (f : F)
    (h : (key : ℕ) (old : Listing) (keep : Bool) (new : Listing) (next : F) → slab.CalledAt step f key old keep new next → (keep ≡ is_listed_at n old) × (new ≡ old) × (next ≡ f)) where
  pub retained : (first : ℕ) (old kept : List (Option Listing)) (key : ℕ) → slab.RetainsFrom step f first old kept → get_or kept key None ≡ keep_listed n (get_or old key None)
  retained first [] kept zero r = ap (λ ks. get_or ks 0 None) r
  retained first [] kept (suc k) r = ap (λ ks. get_or ks (suc k) None) r
  retained first (None ∷ rest) kept zero r = ap (λ ks. get_or ks 0 None) r.1
  retained first (None ∷ rest) kept (suc k) r = ap (λ ks. get_or ks (suc k) None) r.1 ∙ retained (first + 1) rest r.0 k r.2
  retained first (Some x ∷ rest) kept zero r =
      let one = h first x r.0 r.1 r.2 r.3 in
      ap (λ ks. get_or ks 0 None) r.5 ∙ ap (λ b. cond b (Some r.1) None) one.0 ∙ ap (λ y. cond (is_listed_at n x) (Some y) None) one.1
  retained first (Some x ∷ rest) kept (suc k) r =
      let one = h first x r.0 r.1 r.2 r.3 in
      ap (λ ks. get_or ks (suc k) None) r.5 ∙ retained (first + 1) rest r.4 k (subst (λ (g : F). slab.RetainsFrom step g (first + 1) rest r.4) one.2 r.6)

-- and of an index
module _ {F : Type 0} (T : F → Ip6 → ℕ → Bool → ℕ → F → Type 0) (test : ℕ → Bool) (f : F)
    (h : (p : Ip6) (key : ℕ) (b : Bool) (w : ℕ) (next : F) → T f p key b w next → (b ≡ test key) × (w ≡ key) × (next ≡ f)) where
  pub retained_pairs : (es kept : List (Ip6 × ℕ)) → RetainsPairs T f es kept → kept ≡ filter (λ (pair : Ip6 × ℕ). test pair.1) es
  retained_pairs [] kept r = r
  retained_pairs (e ∷ es) kept r =
      let one = h e.0 e.1 r.0 r.1 r.2 r.4 in
      let rest : r.3 ≡ filter (λ (pair : Ip6 × ℕ). test pair.1) es = retained_pairs es r.3 (subst (λ (g : F). RetainsPairs T g es r.3) one.2 r.5) in
      r.6 ∙ ap (λ b. cond b ((e.0, r.1) ∷ r.3) r.3) one.0 ∙ ap (λ w. cond (test e.1) ((e.0, w) ∷ r.3) r.3) one.1 ∙ ap (λ (ps : List (Ip6 × ℕ)). cond (test e.1) (e ∷ ps) ps) rest

-- t has those entries of s that are listed at n
module _ (s t : Slab Listing) (n : ℕ) (is : (k : ℕ) → get t k ≡ keep_listed n (get s k)) where
  abbrev pub taken : ℕ → Bool
  taken k = is_some (get t k)

  still : (o : Option Listing) (x : Listing) → keep_listed n o ≡ Some x → o ≡ Some x
  still None x h = absurd (false≢true (ap is_some h))
  still (Some l) x h = by_test (is_listed_at n l) h where
    by_test : (b : Bool) → cond b (Some l) None ≡ Some x → Some l ≡ Some x
    by_test true e = e
    by_test false e = absurd (false≢true (ap is_some e))

  pub was_there : (k : ℕ) (x : Listing) → get t k ≡ Some x → get s k ≡ Some x
  was_there k x h = still (get s k) x (sym (is k) ∙ h)

  some_of : (o p : Option Listing) → ((x : Listing) → o ≡ Some x → p ≡ Some x) → is_some o ≡ true → o ≡ p
  some_of None p f h = absurd (false≢true h)
  some_of (Some x) p f h = sym (f x refl)

  pub same_there : (k : ℕ) → taken k ≡ true → get t k ≡ get s k
  same_there k h = some_of (get t k) (get s k) (was_there k) h

  kept_leads : (pairs : List (Ip6 × ℕ)) → AllByRecursion (Leads s) pairs → AllByRecursion (Leads t) (filter (λ (pair : Ip6 × ℕ). taken pair.1) pairs)
  kept_leads [] a = tt
  kept_leads (pair ∷ pairs) a = by_test (taken pair.1) refl (kept_leads pairs a.1) where
    by_test : (b : Bool) → taken pair.1 ≡ b → AllByRecursion (Leads t) (filter (λ (q : Ip6 × ℕ). taken q.1) pairs)
        → AllByRecursion (Leads t) (cond b (pair ∷ filter (λ (q : Ip6 × ℕ). taken q.1) pairs) (filter (λ (q : Ip6 × ℕ). taken q.1) pairs))
    by_test true e rest = (record { listing = a.0.listing; at = same_there pair.1 e ∙ a.0.at; who = a.0.who }, rest)
    by_test false e rest = rest

  pub kept_listings : (pairs : List (Ip6 × ℕ)) → AllByRecursion (Leads s) pairs → listings_in t (filter (λ (pair : Ip6 × ℕ). taken pair.1) pairs) ≡ filter (is_listed_at n) (listings_in s pairs)
  kept_listings [] a = refl
  kept_listings (pair ∷ pairs) a =
      by_test (is_listed_at n a.0.listing) (is pair.1 ∙ ap (keep_listed n) a.0.at) (kept_listings pairs a.1)
      ∙ sym (ap (filter (is_listed_at n)) (shown s pair pairs a.0))
    where
      rest : List (Ip6 × ℕ)
      rest = filter (λ (q : Ip6 × ℕ). taken q.1) pairs

      by_test : (b : Bool) → get t pair.1 ≡ cond b (Some a.0.listing) None → listings_in t rest ≡ filter (is_listed_at n) (listings_in s pairs)
          → listings_in t (cond (taken pair.1) (pair ∷ rest) rest) ≡ cond b (a.0.listing ∷ filter (is_listed_at n) (listings_in s pairs)) (filter (is_listed_at n) (listings_in s pairs))
      by_test true e h =
          ap (λ o. listings_in t (cond (is_some o) (pair ∷ rest) rest)) e
          ∙ ap (λ o. cons_option o (listings_in t rest)) e
          ∙ ap (λ (ls : List Listing). a.0.listing ∷ ls) h
      by_test false e h = ap (λ o. listings_in t (cond (is_some o) (pair ∷ rest) rest)) e ∙ h

  kept_key : (p : Ip6) (k : ℕ) (pairs : List (Ip6 × ℕ)) → taken k ≡ true → lookup (is_at (cmp_ip6 p)) pairs ≡ Some k → lookup (is_at (cmp_ip6 p)) (filter (λ (pair : Ip6 × ℕ). taken pair.1) pairs) ≡ Some k
  kept_key p k [] there h = h
  kept_key p k (pair ∷ pairs) there h = by_test (is_eq (cmp_ip6 p pair.0)) (taken pair.1) refl refl h (kept_key p k pairs there) where
    rest : List (Ip6 × ℕ)
    rest = filter (λ (q : Ip6 × ℕ). taken q.1) pairs

    by_test : (b c : Bool) → is_eq (cmp_ip6 p pair.0) ≡ b → taken pair.1 ≡ c → cond b (Some pair.1) (lookup (is_at (cmp_ip6 p)) pairs) ≡ Some k → (lookup (is_at (cmp_ip6 p)) pairs ≡ Some k → lookup (is_at (cmp_ip6 p)) rest ≡ Some k)
        → lookup (is_at (cmp_ip6 p)) (cond c (pair ∷ rest) rest) ≡ Some k
    by_test true true e f h' next = ap (λ b. cond b (Some pair.1) (lookup (is_at (cmp_ip6 p)) rest)) e ∙ h'
    by_test true false e f h' next = absurd (false≢true (sym f ∙ ap taken (ap (λ o. unwrap_or o 0) h') ∙ there))
    by_test false true e f h' next = ap (λ b. cond b (Some pair.1) (lookup (is_at (cmp_ip6 p)) rest)) e ∙ next h'
    by_test false false e f h' next = next h'

  pub shorter : (pairs : List (Ip6 × ℕ)) → length (filter (λ (pair : Ip6 × ℕ). taken pair.1) pairs) ≤ length pairs
  shorter [] = omega arith
  shorter (pair ∷ pairs) = by_test (taken pair.1) (shorter pairs) where
    by_test : (b : Bool) → length (filter (λ (q : Ip6 × ℕ). taken q.1) pairs) ≤ length pairs → length (cond b (pair ∷ filter (λ (q : Ip6 × ℕ). taken q.1) pairs) (filter (λ (q : Ip6 × ℕ). taken q.1) pairs)) ≤ length (pair ∷ pairs)
    by_test true h = omega (arith, h)
    by_test false h = omega (arith, h)

  pub names_kept : (index more : BTreeMap Ip6 ℕ) → more.entries ≡ filter (λ (pair : Ip6 × ℕ). taken pair.1) index.entries → IsOrdered cmp_ip6 more → NameEachOther s index → NameEachOther t more
  names_kept index more kept order m = record {
    leads = subst (AllByRecursion (Leads t)) (sym kept) (kept_leads index.entries m.leads);
    named = λ k x h. ap (λ (ps : List (Ip6 × ℕ)). lookup (is_at (cmp_ip6 x.who)) ps) kept ∙ kept_key x.who k index.entries (ap is_some h) (m.named k x (was_there k x h));
    order = order;
    few = let few = m.few in let less = shorter index.entries in let same = ap length kept in omega (arith, few, less, same);
  }

  none_of : (o : Option Listing) → is_some o ≡ false → is_some (entry_due o) ≡ false
  none_of None h = refl
  none_of (Some x) h = absurd (false≢true (sym h))

  pub once_kept : (keys : List ℕ) → AreDueOnce s keys → AreDueOnce t (filter taken keys)
  once_kept keys o k = count_kept k taken keys ∙ by_test (taken k) refl where
    by_test : (b : Bool) → taken k ≡ b → cond b (count_by (nat_eq k) keys) 0 ≡ cond (is_some (entry_due (get t k))) 1 0
    by_test true e = o k ∙ ap (λ x. cond (is_some (entry_due x)) 1 0) (sym (same_there k e))
    by_test false e = sym (ap (λ c. cond c 1 0) (none_of (get t k) e))

  pub turn_left : (keys : List ℕ) → AreInTurn s keys → AreInTurn t (filter taken keys)
  turn_left keys a = turn_passing s t taken keys same_there a

-- an address that finds an entry has a key
pub has_key : (s : Slab Listing) (o : Option ℕ) → is_some (entry_under s o) ≡ true → is_some o ≡ true
has_key s None h = h
has_key s (Some k) h = refl
