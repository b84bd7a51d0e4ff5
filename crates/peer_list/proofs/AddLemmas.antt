-- What an added entry leaves.
use Rattle.peer_list.proofs.Words.{Adds, AllByRecursion, AreDueOnce, AreInTurn, AreKept, AreWhole, BTreeMap, Bool, Entries, Err, Ip6, IsOrdered, IsSince, IsSinceAll, Leads, List, Listing, NameEachOther, None, Ok, OnErr, OnOk, Option, PEERS_MAX, Result, SameEntries, Slab, Some, ap, arith, cases_eq, cmp_ip6, cmp_ip6_ties, cond, count_by, entry_due, eqb-false, eqb-true, false, false≢true, find, get, get_or, inl, inr, insert_entry, is_at, is_of, is_some, length, listings_in, listings_of, nat_eq, refl, same_ip6, subst, sym, true, vec_capacity, ℕ, ◌&&◌, ◌+◌, ◌∙◌, ◌≡◌, ◌≤◌}
use Rattle.std.specs.BTreeMap as map
use Rattle.peer_list.proofs.Lists.{other_way}
use Rattle.peer_list.proofs.OrderLemmas.{one_if, one_due, turn_other, turn_same}
use Rattle.peer_list.proofs.EntryLemmas.{Fills, finds, leads_filled, named_filled, entry_filled, names_same, listings_same, once_same}

turned : (p q : Ip6) → same_ip6 p q ≡ same_ip6 q p
turned p q = by_test (same_ip6 p q) (same_ip6 q p) refl refl where
  by_test : (a b : Bool) → same_ip6 p q ≡ a → same_ip6 q p ≡ b → a ≡ b
  by_test true true d e = refl
  by_test false false d e = refl
  by_test true false d e = absurd (false≢true (sym (other_way q p e) ∙ d))
  by_test false true d e = absurd (false≢true (sym (other_way p q d) ∙ e))

module _ {s t : Slab Listing} {key : ℕ} {l : Listing} (c : Fills s t key l) (index more : BTreeMap Ip6 ℕ) where
  -- the address leads to the new key, and each other where it led
  pub leads_to : ((q : Ip6) → map.get cmp_ip6 more q ≡ cond (is_at (cmp_ip6 l.who) q) (Some key) (map.get cmp_ip6 index q)) → (p : Ip6) → map.get cmp_ip6 more p ≡ cond (same_ip6 p l.who) (Some key) (map.get cmp_ip6 index p)
  leads_to is p = is p ∙ ap (λ b. cond b (Some key) (map.get cmp_ip6 index p)) (sym (cmp_ip6_ties l.who p) ∙ turned l.who p)

  pub names_filled : NameEachOther s index → map.get cmp_ip6 index l.who ≡ None → more.entries ≡ insert_entry cmp_ip6 index.entries l.who key
      → ((p : Ip6) → map.get cmp_ip6 more p ≡ cond (same_ip6 p l.who) (Some key) (map.get cmp_ip6 index p)) → IsOrdered cmp_ip6 more → length more.entries ≤ PEERS_MAX → NameEachOther t more
  names_filled n none entries is order few = record {
    leads = subst (AllByRecursion (Leads t)) (sym entries) (leads_filled c index.entries n.leads);
    named = named_filled c index more n none is;
    order = order;
    few = few;
  }

  none_yet : (keys : List ℕ) → AreDueOnce s keys → count_by (nat_eq key) keys ≡ 0
  none_yet keys once = once key ∙ ap one_due c.vacant

  pub turn_filled : (keys : List ℕ) → AreDueOnce s keys → AreInTurn s keys → AreInTurn t keys
  turn_filled keys once turn = turn_other s t key keys (none_yet keys once) c.update.others turn

  pub once_filled : (keys new : List ℕ) → AreDueOnce s keys
      → ((k : ℕ) → count_by (nat_eq k) new ≡ count_by (nat_eq k) keys + one_if (nat_eq k key && is_some (entry_due (get t key)))) → AreDueOnce t new
  once_filled keys new once put k = by_test (nat_eq k key) refl (put k) (once k) where
    by_test : (b : Bool) → nat_eq k key ≡ b → count_by (nat_eq k) new ≡ count_by (nat_eq k) keys + one_if (b && is_some (entry_due (get t key)))
        → count_by (nat_eq k) keys ≡ one_if (is_some (entry_due (get s k))) → count_by (nat_eq k) new ≡ one_if (is_some (entry_due (get t k)))
    by_test true e more was =
        let same : k ≡ key = eqb-true k key e in
        let none : one_if (is_some (entry_due (get s k))) ≡ 0 = ap (λ i. one_due (get s i)) same ∙ ap one_due c.vacant in
        let full : one_if (is_some (entry_due (get t k))) ≡ one_if (is_some (entry_due (get t key))) = ap (λ i. one_due (get t i)) same in
        omega (arith, more, was, none, full)
    by_test false e more was =
        let kept : one_if (is_some (entry_due (get t k))) ≡ one_if (is_some (entry_due (get s k))) = ap one_due (c.update.others k (eqb-false k key e)) in
        omega (arith, more, was, kept)

  pub since_filled : (m : ℕ) → IsSince m l.peer.touched → IsSinceAll m s → IsSinceAll m t
  since_filled m since all k x h = elim (cases_eq k key) [
    | inl same ↦ subst (λ (y : Listing). IsSince m y.peer.touched) (of_some (sym c.update.changed ∙ ap (get t) (sym same) ∙ h)) since
    | inr differs ↦ all k x (sym (c.update.others k differs) ∙ h)
  ] where
    of_some : {x : Listing} → Some l ≡ Some x → l ≡ x
    of_some {x} e = ap (λ o. pick o) e where
      pick : Option Listing → Listing
      pick None = l
      pick (Some y) = y

filled : (old new : Entries) (l : Listing) (a : Adds old new l) → Fills old.slab new.slab a.key l
filled old new l a = record { vacant = a.vacant; update = a.slab }

-- an address finds the entry that was added, and each other what it found
pub finds_added : (old new : Entries) (l : Listing) → NameEachOther old.slab old.index → NameEachOther new.slab new.index
    → (a : Adds old new l) → (p : Ip6) → find (is_of p) (listings_of new) ≡ cond (same_ip6 p l.who) (Some l) (find (is_of p) (listings_of old))
finds_added old new l n m a p =
    finds new p m
    ∙ entry_filled (filled old new l a) old.index new.index p n a.index
    ∙ ap (λ o. cond (same_ip6 p l.who) (Some l) o) (sym (finds old p n))

kept_added : (old new : Entries) (l : Listing) (m : ℕ) → AreKept old m → AreWhole new → Adds old new l → new.touched ≡ old.touched → l.peer.touched ≡ Some m → AreKept new m
kept_added old new l m k w a same touched = record {
  whole = w;
  touched = rw same (since_filled (filled old new l a) old.index new.index old.touched.0 (subst (IsSince old.touched.0) (sym touched) k.past) k.touched);
  past = rw same k.past;
}

-- WHERE MEMORY IS WANTING

pub whole_same : (old new : Entries) → new.slab.slots ≡ old.slab.slots → new.index.entries ≡ old.index.entries → new.order.items ≡ old.order.items
    → vec_capacity old.order ≤ vec_capacity new.order → AreWhole old → AreWhole new
whole_same old new slots entries items more w =
    let same : (k : ℕ) → get new.slab k ≡ get old.slab k = λ k. ap (λ ss. get_or ss k None) slots in
    record {
      names = names_same old.slab new.slab same old.index new.index entries w.names;
      once = rw items (once_same old.slab new.slab same old.order.items w.once);
      turn = rw items (turn_same old.slab new.slab old.order.items (λ k. ap entry_due (same k)) w.turn);
      room = let room = w.room in let long = ap length entries in omega (arith, room, long, more);
    }

pub listings_kept : (old new : Entries) → SameEntries old new → listings_of new ≡ listings_of old
listings_kept old new e =
    listings_same old.slab new.slab (λ k. ap (λ ss. get_or ss k None) e.slots) new.index.entries ∙ ap (listings_in old.slab) e.pairs

kept_same : (old new : Entries) (m : ℕ) → SameEntries old new → new.touched ≡ old.touched → AreWhole new → AreKept old m → AreKept new m
kept_same old new m e same w k = record {
  whole = w;
  touched = rw same (λ key x h. k.touched key x (sym (ap (λ ss. get_or ss key None) e.slots) ∙ h));
  past = rw same k.past;
}

pub kept_answered : {A E : Type 0} (old new : Entries) (l : Listing) (m : ℕ) (r : Result A E) → AreKept old m → AreWhole new
    → new.touched ≡ old.touched → OnOk r (Adds old new l) → OnErr r (SameEntries old new) → l.peer.touched ≡ Some m → AreKept new m
kept_answered old new l m (Ok _) k w same added kept touched = kept_added old new l m k w added same touched
kept_answered old new l m (Err _) k w same added kept touched = kept_same old new m kept same w k
