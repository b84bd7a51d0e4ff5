-- A load that is lost is gone: nothing that is kept carries it, whoever is listed now or later, nor any entry that was never delivered.
use Rattle.theory_ends.proofs.Words.{AllByRecursion, Bool, Entry, Full, HeldRecord, IfSome, IsGone, List, Load, Loads, Lost, Mention, Node, None, NumberedSaying, Option, Peer, Some, TopologyState, [], all_sayings, arith, carries, end_after, false, filter, first_number, held_for, held_record, holding_node, inl, inr, is_arrival_of, is_held_among, is_said_of, known, last_number_of, length, list_any, loads, map, node_at, nodes, now, number_in, numbered_mentions, open_entry, refl, subst, sym, true, waiting_node, waiting_records, waits_among, was_delivered, ℕ, ◌+◌, ◌<◌, ◌∷◌, ◌≡◌, ◌≤◌, ◌⊎◌}
use Rattle.peer_list.specs.declared.held.Held.{Held}
use Rattle.theory_ends.proofs.Kept.{MentionsHave, PeerHas, mentions_follow, none_before, record_more}
use Rattle.theory_ends.proofs.Handed.{IsHandedIn, handed_or_unsaid}
use Rattle.theory_ends.proofs.Other.{IsGoneFrom, IsOther}
use Rattle.theory_ends.proofs.AtEnd.{LostParts, any_of_none, at_any_time, each_delivered, lost_parts, none_of_any, none_passes}

-- the numbers that stand in place of packets are those of records
abbrev IsNumberOf : List Full → ℕ → Type 0
IsNumberOf H i = i < length H

numbers_have : (H : List Full) (n : ℕ) (a : Node) → MentionsHave (IsNumberOf H) (numbered_mentions H n a) 0
numbers_have [] n a = none_before (IsNumberOf []) n a 0
numbers_have (r ∷ H) n a = record_more (IsNumberOf (r ∷ H)) H r n a 0 (omega arith) (at_some_time r.entry)
    (mentions_follow (IsNumberOf H) (IsNumberOf (r ∷ H)) (λ i lt. omega (arith, lt)) (numbered_mentions H n a) 0 0 (omega arith) (numbers_have H n a))
  where
    at_some_time : (o : Option Entry) → IfSome o (λ (e : Entry). 0 ≤ e.moment)
    at_some_time None = tt
    at_some_time (Some e) = omega arith

module _ (t : TopologyState) (H : List Full) (l : Load) where
  abbrev ls : Loads
  ls = loads t H

  abbrev ts : List NumberedSaying
  ts = all_sayings t H

  -- of packets that wait, and of those that are held: one carries the load
  abbrev waits_with : Peer → Bool
  waits_with x = list_any (carries ls l) (map number_in x.waiting)

  abbrev holds_with : Peer → Bool
  holds_with x = list_any (λ (h : HeldRecord). carries ls l h.number) (map held_record x.held)

  others_wait : (xs : List (List ℕ)) → AllByRecursion (λ (y : List ℕ). number_in y < length H) xs → AllByRecursion (λ (i : ℕ). carries ls l i ≡ false) (map number_in xs)
      → AllByRecursion (λ (y : List ℕ). IsOther t l H (number_in y)) xs
  others_wait [] below none = tt
  others_wait (y ∷ ys) below none = ((below.0, none.0), others_wait ys below.1 none.1)

  others_held : (hs : List Held) → AllByRecursion (λ (h : Held). number_in h.packet < length H) hs → AllByRecursion (λ (h : HeldRecord). carries ls l h.number ≡ false) (map held_record hs)
      → AllByRecursion (λ (h : Held). IsOther t l H (number_in h.packet)) hs
  others_held [] below none = tt
  others_held (h ∷ hs) below none = ((below.0, none.0), others_held hs below.1 none.1)

  module _ (j : ℕ) (is : end_after t H l ≡ Some (Lost j)) where
    pub parts : LostParts (first_number (filter (is_arrival_of l) ts)) (waiting_node t H ls l) (holding_node t H ls l) (open_entry H l 0 ls.wire) (last_number_of (filter (is_said_of l) ts)) j
    parts = lost_parts (first_number (filter (is_arrival_of l) ts)) (waiting_node t H ls l) (holding_node t H ls l) (open_entry H l 0 ls.wire) (last_number_of (filter (is_said_of l) ts)) j is

    was_handed_in : IsHandedIn ls.packets l
    was_handed_in = by (handed_or_unsaid t H l) where
      by : IsHandedIn ls.packets l ⊎ (filter (is_said_of l) ts ≡ []) → IsHandedIn ls.packets l
      by (inl handed) = handed
      by (inr none) = let e : last_number_of [] ≡ Some j = subst (λ (ss : List NumberedSaying). last_number_of ss ≡ Some j) none parts.last_said in absurd (cc e)

    from_none : (i : ℕ) → i ≡ 0 + i
    from_none i = omega arith

    module _ (n : ℕ) (a : Node) (there : node_at t n ≡ Some a) where
      abbrev said_by_it : List Mention
      said_by_it = numbered_mentions H n a

      none_waits : waits_among ls l said_by_it (now H) ≡ false
      none_waits = subst (λ (k : ℕ). waits_among ls l (numbered_mentions H k a) (now H) ≡ false) (sym (from_none n))
          (none_passes (λ (k : ℕ) (b : Node). waits_among ls l (numbered_mentions H k b) (now H)) 0 (nodes t) parts.waits_nowhere n a there)

      none_held : is_held_among ls l said_by_it (now H) ≡ false
      none_held = subst (λ (k : ℕ). is_held_among ls l (numbered_mentions H k a) (now H) ≡ false) (sym (from_none n))
          (none_passes (λ (k : ℕ) (b : Node). is_held_among ls l (numbered_mentions H k b) (now H)) 0 (nodes t) parts.held_nowhere n a there)

      none_kept : MentionsHave (IsOther t l H) said_by_it (now H)
      none_kept m p le = record {
        waiting = others_wait (known said_by_it m p).waiting below.waiting
            (none_of_any (carries ls l) (map number_in (known said_by_it m p).waiting) (at_any_time said_by_it (now H) waits_with refl none_waits m p le));
        held = others_held (known said_by_it m p).held below.held
            (none_of_any (λ (h : HeldRecord). carries ls l h.number) (map held_record (known said_by_it m p).held) (at_any_time said_by_it (now H) holds_with refl none_held m p le));
      } where
        below : PeerHas (IsNumberOf H) (known said_by_it m p)
        below = numbers_have H n a m p (omega arith)

    pub is_gone_from : IsGoneFrom t l H
    is_gone_from = record {
      handed = was_handed_in;
      kept = none_kept;
      delivered = λ e carried. subst (λ (k : ℕ). was_delivered k H ≡ true) (sym (from_none e)) (each_delivered H l 0 ls.wire parts.none_open e carried);
    }

  -- AS IT IS SAID OF IT

  others_only : (xs : List (List ℕ)) → AllByRecursion (λ (y : List ℕ). IsOther t l H (number_in y)) xs → AllByRecursion (λ (i : ℕ). carries ls l i ≡ false) (map number_in xs)
  others_only [] all = tt
  others_only (y ∷ ys) all = (all.0.1, others_only ys all.1)

  others_only_held : (hs : List Held) → AllByRecursion (λ (h : Held). IsOther t l H (number_in h.packet)) hs → AllByRecursion (λ (h : HeldRecord). carries ls l h.number ≡ false) (map held_record hs)
  others_only_held [] all = tt
  others_only_held (h ∷ hs) all = (all.0.1, others_only_held hs all.1)

  pub as_gone : IsGoneFrom t l H → IsGone t H l
  as_gone gone = record {
    waits = λ n a m p there le. any_of_none (carries ls l) (waiting_records (numbered_mentions H n a) m p)
        (others_only (known (numbered_mentions H n a) m p).waiting (gone.kept n a there m p le).waiting);
    held = λ n a m p there le. any_of_none (λ (h : HeldRecord). carries ls l h.number) (held_for (numbered_mentions H n a) m p)
        (others_only_held (known (numbered_mentions H n a) m p).held (gone.kept n a there m p le).held);
    delivered = gone.delivered;
  }
