-- Where nothing carries a load any more, a record that isn't brought it says nothing of it and makes nothing that carries it.
use Rattle.theory_ends.proofs.Words.{AllByRecursion, Bool, Entry, Full, HeldRecord, IfSome, Ip6, List, Load, Loads, Mention, Node, None, Option, Packet, Saying, Some, TopologyState, [], add-one, answer_to, ap, arith, carries, dropped_peers, ends_holding, entry_loads, entry_peer, false, flat_map, get_or_append_left, gives_up, held_for, held_record, if◌then◌else◌, is_handing_in, is_load, is_number, known, length, length-append, load_at, load_given, loads, made_loads, map, mentions_at, mentions_if, node_at, now, number_in, numbered_mentions, option_and_then, refl, releases_all, same_load, sayings_of, subst, suc, sym, true, waiting_records, was_delivered, zero, ℕ, ◌++◌, ◌<◌, ◌||◌, ◌∙◌, ◌∷◌, ◌≡◌, ◌≤◌}
use Rattle.peer_list.specs.declared.held.Held.{Held}
use Rattle.theory_ends.proofs.Kept.{MentionsHave, mentions_follow, none_have, record_more}
use Rattle.theory_ends.proofs.Carried.{LoadHas, RecordHas, all_flat, load_has_at, made_have, said_have}
use Rattle.theory_ends.proofs.Handed.{IsHandedIn, all_of_any, handed_still, not_next, same_itself}

-- LISTS

over_map : {A B : Type 0} (P : B → Type 0) (f : A → B) (xs : List A) → AllByRecursion (λ (x : A). P (f x)) xs → AllByRecursion P (map f xs)
over_map P f [] all = tt
over_map P f (x ∷ xs) all = (all.0, over_map P f xs all.1)

all_if : {A : Type 0} (P : A → Type 0) (b : Bool) (xs ys : List A) → AllByRecursion P xs → AllByRecursion P ys → AllByRecursion P (if b then xs else ys)
all_if P true xs ys p q = p
all_if P false xs ys p q = q

load_behind : (xs : List (Option Load)) (x : Option Load) → load_at (xs ++ x ∷ []) (length xs) ≡ x
load_behind [] x = refl
load_behind (y ∷ xs) x = load_behind xs x

-- each record has a load, or none
records_counted : (t : TopologyState) (H : List Full) → length (loads t H).records ≡ length H
records_counted t [] = refl
records_counted t (r ∷ H) = length-append (loads t H).records (load_given (loads t H) r ∷ []) ∙ rw (records_counted t H) (add-one (length H))

module _ (l : Load) where
  -- ANOTHER LOAD

  abbrev pub IsAnother : Load → Type 0
  IsAnother k = same_load l k ≡ false

  pub is_another : (o : Option Load) → is_load l o ≡ false → LoadHas IsAnother o
  is_another None is = tt
  is_another (Some k) is = is

  pub another_is : (o : Option Load) → LoadHas IsAnother o → is_load l o ≡ false
  another_is None is = refl
  another_is (Some k) is = is

  not_itself : IsAnother l → ⊥
  not_itself is = let e : true ≡ false = sym (same_itself l) ∙ is in absurd (cc e)

  -- an entry that carries the load isn't among these
  carried_before : (xs ys : List (Option Load)) → AllByRecursion (LoadHas IsAnother) ys → (e : ℕ) → load_at (xs ++ ys) e ≡ Some l → load_at xs e ≡ Some l
  carried_before [] ys all e is = absurd (not_itself (subst (LoadHas IsAnother) is (load_has_at IsAnother ys all e)))
  carried_before (x ∷ xs) ys all zero is = is
  carried_before (x ∷ xs) ys all (suc e) is = carried_before xs ys all e is

module _ (t : TopologyState) (l : Load) where
  -- the number is that of a record, which was given another load
  abbrev pub IsOther : List Full → ℕ → Type 0
  IsOther H i = (i < length H) × (carries (loads t H) l i ≡ false)

  -- nothing that is kept carries the load, nor any entry that was never delivered; and it is no packet that comes yet
  pub record IsGoneFrom (H : List Full) : Type 0 where
    pub handed : IsHandedIn (loads t H).packets l
    pub kept : (n : ℕ) (a : Node) → node_at t n ≡ Some a → MentionsHave (IsOther H) (numbered_mentions H n a) (now H)
    pub delivered : (e : ℕ) → load_at (loads t H).wire e ≡ Some l → was_delivered e H ≡ true

  -- the load of the entry that a record delivers
  abbrev pub brought : List Full → Full → Option Load
  brought H r = option_and_then (load_at (loads t H).wire) r.delivered

  module _ (H : List Full) (r : Full) (gone : IsGoneFrom H) (later : now H ≤ r.moment) (other : is_load l (brought H r) ≡ false)
      (other_answer : is_load l (answer_to (brought H r)) ≡ false) where
    abbrev ls : Loads
    ls = loads t H

    given_other : LoadHas (IsAnother l) (load_given ls r)
    given_other = by (is_handing_in r.act) where
      by : (b : Bool) → LoadHas (IsAnother l) (if b then Some (Packet ls.packets) else brought H r)
      by true = (not_next ls.packets l gone.handed).0
      by false = is_another l (brought H r) other

    answer_other : LoadHas (IsAnother l) (answer_to (load_given ls r))
    answer_other = by (is_handing_in r.act) where
      by : (b : Bool) → LoadHas (IsAnother l) (answer_to (if b then Some (Packet ls.packets) else brought H r))
      by true = (not_next ls.packets l gone.handed).1
      by false = is_another l (answer_to (brought H r)) other_answer

    -- WHAT IS KEPT

    abbrev j : List Mention
    j = mentions_at t H r.node

    at_node : (o : Option ℕ) → MentionsHave (IsOther H) (mentions_at t H o) (now H)
    at_node None = none_have (IsOther H) (now H)
    at_node (Some n) = by (node_at t n) refl where
      by : (o : Option Node) → node_at t n ≡ o → MentionsHave (IsOther H) (mentions_if H n o) (now H)
      by None none = none_have (IsOther H) (now H)
      by (Some a) there = gone.kept n a there

    abbrev HasAnother : ℕ → Type 0
    HasAnother i = LoadHas (IsAnother l) (load_at ls.records i)

    abbrev HoldsAnother : HeldRecord → Type 0
    HoldsAnother h = LoadHas (IsAnother l) (load_at ls.records h.number)

    waiting_other : (p : Ip6) → AllByRecursion HasAnother (waiting_records j r.moment p)
    waiting_other p = over_map HasAnother number_in (known j r.moment p).waiting (of (known j r.moment p).waiting (at_node r.node r.moment p later).waiting) where
      of : (xs : List (List ℕ)) → AllByRecursion (λ (y : List ℕ). IsOther H (number_in y)) xs → AllByRecursion (λ (y : List ℕ). HasAnother (number_in y)) xs
      of [] all = tt
      of (y ∷ ys) all = (is_another l (load_at ls.records (number_in y)) all.0.1, of ys all.1)

    held_other : (p : Ip6) → AllByRecursion HoldsAnother (held_for j r.moment p)
    held_other p = over_map HoldsAnother held_record (known j r.moment p).held (of (known j r.moment p).held (at_node r.node r.moment p later).held) where
      of : (xs : List Held) → AllByRecursion (λ (h : Held). IsOther H (number_in h.packet)) xs → AllByRecursion (λ (h : Held). HoldsAnother (held_record h)) xs
      of [] all = tt
      of (h ∷ hs) all = (is_another l (load_at ls.records (number_in h.packet)) all.0.1, of hs all.1)

    has_another : RecordHas (IsAnother l) t H r ls
    has_another = record {
      given = given_other;
      answer = answer_other;
      released = all_if HasAnother (releases_all r.fate) (waiting_records j r.moment (entry_peer r.entry)) [] (waiting_other (entry_peer r.entry)) tt;
      dropped = all_if HasAnother (gives_up r.fate) (waiting_records j r.moment (entry_peer r.entry)) (flat_map (waiting_records j r.moment) (dropped_peers j r))
          (waiting_other (entry_peer r.entry)) (all_flat HasAnother (waiting_records j r.moment) (dropped_peers j r) (all_of_any _ waiting_other (dropped_peers j r)));
      ended = all_if HoldsAnother (ends_holding r.fate) (held_for j r.moment (entry_peer r.entry)) (flat_map (held_for j r.moment) (dropped_peers j r))
          (held_other (entry_peer r.entry)) (all_flat HoldsAnother (held_for j r.moment) (dropped_peers j r) (all_of_any _ held_other (dropped_peers j r)));
    }

    -- it says nothing of the load
    pub says_of_others : AllByRecursion (λ (s : Saying). IsAnother l s.load) (sayings_of t H ls r)
    says_of_others = said_have (IsAnother l) t H r ls has_another

    -- no entry of it carries the load
    pub carried_then : (e : ℕ) → load_at (loads t (r ∷ H)).wire e ≡ Some l → load_at ls.wire e ≡ Some l
    carried_then e is = carried_before l ls.wire (entry_loads r.made (made_loads t H ls r)) (made_have (IsAnother l) t H r ls has_another) e is

    -- and so it is still gone
    other_still : (i : ℕ) → IsOther H i → IsOther (r ∷ H) i
    other_still i is =
        let n : length ls.records ≡ length H = records_counted t H in
        let m = is.0 in
        (omega (arith, m), ap (is_load l) (get_or_append_left ls.records (load_given ls r ∷ []) None i (omega (arith, m, n))) ∙ is.1)

    other_here : IsOther (r ∷ H) (length H)
    other_here = (
      omega arith,
      ap (λ (k : ℕ). is_load l (load_at (ls.records ++ load_given ls r ∷ []) k)) (sym (records_counted t H))
          ∙ ap (is_load l) (load_behind ls.records (load_given ls r)) ∙ another_is l (load_given ls r) given_other,
    )

    pub still_gone : IfSome r.entry (λ (e : Entry). now H ≤ e.moment) → IsGoneFrom (r ∷ H)
    still_gone since = record {
      handed = handed_still t H r l gone.handed;
      kept = λ n a there. mentions_follow (IsOther (r ∷ H)) (IsOther (r ∷ H)) (λ i is. is) (numbered_mentions (r ∷ H) n a) (now H) r.moment later
          (record_more (IsOther (r ∷ H)) H r n a (now H) other_here since
          (mentions_follow (IsOther H) (IsOther (r ∷ H)) other_still (numbered_mentions H n a) (now H) (now H) (omega arith) (gone.kept n a there)));
      delivered = λ e is. or_last (is_number e r.delivered) (was_delivered e H) (gone.delivered e (carried_then e is));
    } where
      or_last : (a b : Bool) → b ≡ true → a || b ≡ true
      or_last true b is = refl
      or_last false b is = is
