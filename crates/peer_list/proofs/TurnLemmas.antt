-- The first entry, in the order in which they are due, that is listed and for which packets wait.
use Rattle.peer_list.proofs.Words.{AllByRecursion, AreApart, AreWhole, Bool, Entries, Ip6, IsNotBefore, List, Listing, Millis, None, NoneBefore, Option, Slab, Some, [], ap, arith, cond, due_and_who, entry_due, entry_under, false, false≢true, filter, first_due_in, get, get_or, inl, inr, is_before, is_listed_at, is_none, is_some, is_sooner, length, listings_of, not, option_map, refl, slice_get, subst, suc, sym, table, true, unwrap_or, zero, ℕ, ◌&&◌, ◌+◌, ◌<◌, ◌∙◌, ◌∷◌, ◌≡◌, ◌≤◌, ◌⊎◌}
use Rattle.peer_list.proofs.PlaceLemmas.{apart_of}
use Rattle.peer_list.proofs.DueLemmas.{waits_at}
use Rattle.peer_list.proofs.FirstLemmas.{not_before_itself, not_sooner_itself, waits_of, first_is, first_is_none}
use Rattle.peer_list.proofs.OrderLemmas.{one_if, one_due, place_of, turn_at, due_at_place}
use Rattle.peer_list.proofs.EntryLemmas.{finds, sound_of, all_listings}

-- an entry, where there is one, that is listed at n and for which packets wait
abbrev pub waits_under : ℕ → Option Listing → Bool
waits_under n None = false
waits_under n (Some l) = waits_at n l

-- none of those in front of a place
abbrev pub NoneInFront : Slab Listing → List ℕ → ℕ → ℕ → Type 0
NoneInFront s keys n i = (j d : ℕ) → j < i → waits_under n (get s (get_or keys j d)) ≡ false

any_or : (ks : List ℕ) (i d e : ℕ) → i < length ks → get_or ks i d ≡ get_or ks i e
any_or [] i d e k = absurd (omega (arith, k))
any_or (x ∷ ks) zero d e k = refl
any_or (x ∷ ks) (suc i) d e k = any_or ks i d e (omega (arith, k))

pub one_further : (s : Slab Listing) (keys : List ℕ) (n i key : ℕ) → i < length keys → key ≡ get_or keys i key → waits_under n (get s key) ≡ false → NoneInFront s keys n i → NoneInFront s keys n (i + 1)
one_further s keys n i key within at none front j d k = by_place (split i j (omega (arith, k))) where
  split : (i j : ℕ) → j ≤ i → (j < i) ⊎ (j ≡ i)
  split zero zero l = inr refl
  split zero (suc j) l = absurd (omega (arith, l))
  split (suc i) zero l = inl (omega arith)
  split (suc i) (suc j) l = elim (split i j (omega (arith, l))) [ inl b ↦ inl (omega (arith, b)) | inr e ↦ inr (ap suc e) ]

  by_place : (j < i) ⊎ (j ≡ i) → waits_under n (get s (get_or keys j d)) ≡ false
  by_place (inl before) = front j d before
  by_place (inr same) = ap (λ m. waits_under n (get s (get_or keys m d))) same ∙ ap (λ m. waits_under n (get s m)) (any_or keys i d key within ∙ sym at) ∙ none

all_passing : (test : Listing → Bool) (Q : Listing → Type 0) (ls : List Listing) → AllByRecursion (λ (x : Listing). test x ≡ true → Q x) ls → AllByRecursion Q (filter test ls)
all_passing test Q [] a = tt
all_passing test Q (x ∷ ls) a = by_test (test x) refl (all_passing test Q ls a.1) where
  by_test : (b : Bool) → test x ≡ b → AllByRecursion Q (filter test ls) → AllByRecursion Q (cond b (x ∷ filter test ls) (filter test ls))
  by_test true e rest = (a.0 e, rest)
  by_test false e rest = rest

none_kept : (test : Listing → Bool) (ls : List Listing) → AllByRecursion (λ (x : Listing). test x ≡ false) ls → filter test ls ≡ []
none_kept test [] a = refl
none_kept test (x ∷ ls) a = ap (λ b. cond b (x ∷ filter test ls) (filter test ls)) a.0 ∙ none_kept test ls a.1

due_is : (n : ℕ) (l : Listing) → waits_at n l ≡ true → entry_due (Some l) ≡ Some (due_and_who l)
due_is n l h = ap (λ b. cond b None (Some (due_and_who l))) (waits_of n l h)

some_first : (ks : List ℕ) (k d : ℕ) → Some k ≡ slice_get ks 0 → get_or ks 0 d ≡ k
some_first [] k d h = absurd (false≢true (sym (ap is_some h)))
some_first (x ∷ ks) k d h = ap (λ o. unwrap_or o x) (sym h)

one_there : (ks : List ℕ) (k : ℕ) → Some k ≡ slice_get ks 0 → 0 < length ks
one_there [] k h = absurd (false≢true (sym (ap is_some h)))
one_there (x ∷ ks) k h = omega arith

some_waits : (l : Listing) → is_some (entry_due (Some l)) ≡ true → is_none l.peer.waiting ≡ false
some_waits l h = by_test (is_none l.peer.waiting) h where
  by_test : (b : Bool) → is_some (cond b None (Some (due_and_who l))) ≡ true → b ≡ false
  by_test true k = absurd (false≢true k)
  by_test false k = refl

module _ (e : Entries) (n : ℕ) (w : AreWhole e) where
  apart : AreApart (listings_of e)
  apart = apart_of (sound_of e w.names)

  abbrev pub keys : List ℕ
  keys = e.order.items

  -- each entry for which packets wait has a place
  placed : (key : ℕ) (x : Listing) → get e.slab key ≡ Some x → is_none x.peer.waiting ≡ false → (i : ℕ) × (i < length keys) × ((d : ℕ) → get_or keys i d ≡ key)
  placed key x h some =
      let one : one_if (is_some (entry_due (get e.slab key))) ≡ 1 = ap one_due h ∙ ap (λ b. one_if (is_some (cond b None (Some (due_and_who x))))) some in
      let once = w.once key in
      place_of key keys (omega (arith, one, once))

  -- what none in a place is due before, none is
  pub none_before : (first : Option (Millis × Ip6)) → ((j d : ℕ) → j < length keys → is_sooner (entry_due (get e.slab (get_or keys j d))) first ≡ false) → NoneBefore first (listings_of e)
  none_before first late = all_listings e.slab (IsNotBefore first) e.index.entries not_before w.names.leads where
    not_before : (k : ℕ) (x : Listing) → get e.slab k ≡ Some x → IsNotBefore first x
    not_before k x h waits =
        let p = placed k x h waits in
        let due : entry_due (get e.slab (get_or keys p.0 k)) ≡ Some (due_and_who x) = ap (λ m. entry_due (get e.slab m)) (p.2 k) ∙ ap entry_due h ∙ ap (λ b. cond b None (Some (due_and_who x))) waits in
        sym (ap (λ o. is_sooner o first) due) ∙ late p.0 k p.1

  pub none_before_none : length keys ≡ 0 → NoneBefore None (listings_of e)
  none_before_none none = none_before None (λ j d k. absurd (omega (arith, k, none)))

  none_before_first : (k : ℕ) → ((d : ℕ) → get_or keys 0 d ≡ k) → NoneBefore (entry_due (get e.slab k)) (listings_of e)
  none_before_first k at = none_before (entry_due (get e.slab k)) late where
    late : (j d : ℕ) → j < length keys → is_sooner (entry_due (get e.slab (get_or keys j d))) (entry_due (get e.slab k)) ≡ false
    late zero d within = ap (λ m. is_sooner (entry_due (get e.slab m)) (entry_due (get e.slab k))) (at d) ∙ not_sooner_itself (entry_due (get e.slab k))
    late (suc j) d within = ap (λ m. is_sooner (entry_due (get e.slab (get_or keys (suc j) d))) (entry_due (get e.slab m))) (sym (at d)) ∙ turn_at e.slab keys 0 (suc j) d (omega arith) within w.turn

  -- one that waits stands behind a place in front of which none waits, or there
  data StandsInTurn (i : ℕ) (key : ℕ) : Type 0 where
    there : ((d : ℕ) → get_or keys i d ≡ key) → StandsInTurn i key
    behind : (j : ℕ) → i < j → j < length keys → ((d : ℕ) → get_or keys j d ≡ key) → StandsInTurn i key

  stands : (i : ℕ) → NoneInFront e.slab keys n i → (key : ℕ) (x : Listing) → get e.slab key ≡ Some x → waits_at n x ≡ true → StandsInTurn i key
  stands i front key x h waits = by_place (placed key x h (waits_of n x waits)) where
    compare : (i j : ℕ) → (j < i) ⊎ ((j ≡ i) ⊎ (i < j))
    compare zero zero = inr (inl refl)
    compare zero (suc j) = inr (inr (omega arith))
    compare (suc i) zero = inl (omega arith)
    compare (suc i) (suc j) = elim (compare i j) [
      | inl b ↦ inl (omega (arith, b))
      | inr c ↦ elim c [ inl s ↦ inr (inl (ap suc s)) | inr b ↦ inr (inr (omega (arith, b))) ]
    ]

    by_place : (j : ℕ) × (j < length keys) × ((d : ℕ) → get_or keys j d ≡ key) → StandsInTurn i key
    by_place p = elim (compare i p.0) [
      | inl before ↦ absurd (false≢true (sym (front p.0 key before) ∙ ap (λ k. waits_under n (get e.slab k)) (p.2 key) ∙ ap (waits_under n) h ∙ waits))
      | inr c ↦ elim c [ inl same ↦ there (λ d. ap (λ j. get_or keys j d) (sym same) ∙ p.2 d) | inr after ↦ behind p.0 after p.1 p.2 ]
    ]

  -- the first is due no later than any that waits
  pub first_due : (i key : ℕ) (l : Listing) → i < length keys → key ≡ get_or keys i key → get e.slab key ≡ Some l → NoneInFront e.slab keys n i → waits_at n l ≡ true
      → Some (due_and_who l) ≡ option_map due_and_who (first_due_in (table n (listings_of e)) n)
  first_due i key l within at h front waits =
      first_is n (listings_of e) l apart (finds e l.who w.names ∙ ap (entry_under e.slab) (w.names.named key l h) ∙ h) waits
      (all_passing (waits_at n) (λ (x : Listing). is_before (due_and_who x) (Some (due_and_who l)) ≡ false) (listings_of e)
      (all_listings e.slab (λ (x : Listing). waits_at n x ≡ true
      → is_before (due_and_who x) (Some (due_and_who l)) ≡ false) e.index.entries late w.names.leads))
    where
      of_some : {x y : Listing} → Some x ≡ Some y → x ≡ y
      of_some {x} {y} k = ap pick k where
        pick : Option Listing → Listing
        pick None = x
        pick (Some z) = z

      late : (k : ℕ) (x : Listing) → get e.slab k ≡ Some x → waits_at n x ≡ true → is_before (due_and_who x) (Some (due_and_who l)) ≡ false
      late k x h' waits' = by_place (stands i front k x h' waits') where
        by_place : StandsInTurn i k → is_before (due_and_who x) (Some (due_and_who l)) ≡ false
        by_place (there is) =
            let same : x ≡ l = of_some (sym h' ∙ ap (get e.slab) (sym (is key) ∙ sym at) ∙ h) in
            ap (λ (y : Listing). is_before (due_and_who y) (Some (due_and_who l))) same ∙ not_before_itself (due_and_who l)
        by_place (behind j after within' is) =
            let turn = turn_at e.slab keys i j key after within' w.turn in
            let first : entry_due (get e.slab (get_or keys i key)) ≡ Some (due_and_who l) = ap (λ m. entry_due (get e.slab m)) (sym at) ∙ ap entry_due h ∙ due_is n l waits in
            let next : entry_due (get e.slab (get_or keys j key)) ≡ Some (due_and_who x) = ap (λ m. entry_due (get e.slab m)) (is key) ∙ ap entry_due h' ∙ due_is n x waits' in
            sym (ap (λ o. is_sooner o (entry_due (get e.slab (get_or keys i key)))) next ∙ ap (is_sooner (Some (due_and_who x))) first) ∙ turn

  none_waits : ((k : ℕ) (x : Listing) → get e.slab k ≡ Some x → waits_at n x ≡ true → ⊥) → None ≡ option_map due_and_who (first_due_in (table n (listings_of e)) n)
  none_waits f = first_is_none n (listings_of e) apart (none_kept (waits_at n) (listings_of e)
      (all_listings e.slab (λ (x : Listing). waits_at n x ≡ false) e.index.entries (λ k x h. by_test x (waits_at n x) refl (f k x h)) w.names.leads)) where
        by_test : (x : Listing) (b : Bool) → waits_at n x ≡ b → (waits_at n x ≡ true → ⊥) → waits_at n x ≡ false
        by_test x true t g = absurd (g t)
        by_test x false t g = t

  -- where none waits in any place
  pub no_due : (i : ℕ) → length keys ≤ i → NoneInFront e.slab keys n i → None ≡ option_map due_and_who (first_due_in (table n (listings_of e)) n)
  no_due i past front = none_waits none where
    none : (k : ℕ) (x : Listing) → get e.slab k ≡ Some x → waits_at n x ≡ true → ⊥
    none k x h waits = by_place (stands i front k x h waits) where
      by_place : StandsInTurn i k → ⊥
      by_place (there is) =
          let p = placed k x h (waits_of n x waits) in
          let early = front p.0 k (omega (arith, p.1, past)) in
          absurd (false≢true (sym early ∙ ap (λ m. waits_under n (get e.slab m)) (p.2 k) ∙ ap (waits_under n) h ∙ waits))
      by_place (behind j after within' is) = absurd (omega (arith, after, within', past))

  -- the same of the entry at a place
  pub first_at : (ks : List ℕ) (i d : ℕ) (l : Listing) → ks ≡ keys → i < length keys → get e.slab (get_or ks i d) ≡ Some l → NoneInFront e.slab keys n i → waits_at n l ≡ true
      → Some (due_and_who l) ≡ option_map due_and_who (first_due_in (table n (listings_of e)) n)
  first_at ks i d l is within h front waits = first_due i (get_or keys i d) l within (any_or keys i d (get_or keys i d) within) (ap (λ (xs : List ℕ). get e.slab (get_or xs i d)) (sym is) ∙ h) front waits

  -- packets wait for the entry of a key that stands there
  pub waits_there : (ks : List ℕ) (i d : ℕ) (l : Listing) → ks ≡ keys → i < length keys → get e.slab (get_or ks i d) ≡ Some l → is_none l.peer.waiting ≡ false
  waits_there ks i d l is within h =
      let there : get e.slab (get_or keys i d) ≡ Some l = ap (λ (xs : List ℕ). get e.slab (get_or xs i d)) (sym is) ∙ h in
      some_waits l (sym (ap (λ o. is_some (entry_due o)) there) ∙ due_at_place e.slab keys i d w.once within)

  -- packets wait for the entry of the first key, and none is due before it
  module _ {ks : List ℕ} {key : ℕ} {l : Listing} (is : ks ≡ keys) (first : Some key ≡ slice_get ks 0) (h : get e.slab key ≡ Some l) where
    in_front : Some key ≡ slice_get keys 0
    in_front = first ∙ ap (λ (xs : List ℕ). slice_get xs 0) is

    pub first_waits : is_none l.peer.waiting ≡ false
    first_waits = waits_there keys 0 key l refl (one_there keys key in_front) (ap (get e.slab) (some_first keys key key in_front) ∙ h)

    pub none_before_it : NoneBefore (Some (due_and_who l)) (listings_of e)
    none_before_it =
        let due : entry_due (get e.slab key) ≡ Some (due_and_who l) = ap entry_due h ∙ ap (λ b. cond b None (Some (due_and_who l))) first_waits in
        subst (λ o. NoneBefore o (listings_of e)) due (none_before_first key (λ d. some_first keys key d in_front))

pub waits_both : (n : ℕ) (l : Listing) → is_listed_at n l ≡ true → is_none l.peer.waiting ≡ false → waits_at n l ≡ true
waits_both n l listed some = ap (λ b. b && not (is_none l.peer.waiting)) listed ∙ ap not some

pub none_first : (ks : List ℕ) → None ≡ slice_get ks 0 → length ks ≡ 0
none_first [] h = refl
none_first (k ∷ ks) h = absurd (false≢true (ap is_some h))
