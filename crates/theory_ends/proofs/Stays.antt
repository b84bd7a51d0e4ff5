-- What was lost stays lost: record by record nothing is said of it, and nothing carries it.
use Rattle.theory_ends.proofs.Words.{AllByRecursion, Bool, Full, Grown, HeldRecord, Ip6, IsGone, Lab, List, Load, Loads, Lost, LostStaysLost, Node, None, NoneDelivers, NumberedSaying, Option, Packet, ReplyTo, Saying, Some, TopologyState, [], all_sayings, answer_to, ap, append-nil, arith, carries, delivers_load, end_after, entry_loads, false, filter, filter-append, first_number, held_for, holding_node, is_arrival, is_arrival_of, is_held_among, is_load, is_said_of, last_number_of, length, list_any, listed, load_at, loads, made_loads, map, nodes, now, numbered_mentions, open_entry, option_and_then, refl, said_of_load, same_load, saying_by, sayings_of, subst, suc, sym, true, waiting_node, waiting_records, waits_among, was_delivered, zero, ℕ, ◌++◌, ◌+◌, ◌∙◌, ◌∷◌, ◌≡◌, ◌≤◌}
use Rattle.legal.proofs.LawProofs as laws
use Rattle.theory_ends.proofs.Handed.{same_is, same_itself}
use Rattle.theory_ends.proofs.Moments.{not_earlier}
use Rattle.theory_ends.proofs.Other.{IsGoneFrom, brought, carried_then, says_of_others, still_gone}
use Rattle.theory_ends.proofs.AtEnd.{none_found, none_open}
use Rattle.theory_ends.proofs.Lost.{as_gone, is_gone_from, parts}

-- WHAT A RECORD IS BROUGHT

load_is : (l : Load) (o : Option Load) → is_load l o ≡ true → o ≡ Some l
load_is l None is = absurd (cc is)
load_is l (Some k) is = ap Some (sym (same_is l k is))

-- a packet is no answer
no_packet : (k : ℕ) (o : Option Load) → is_load (Packet k) (answer_to o) ≡ false
no_packet k None = refl
no_packet k (Some (Packet i)) = refl
no_packet k (Some (ReplyTo i)) = refl

-- a reply is one to its packet alone
no_reply : (k : ℕ) (o : Option Load) → is_load (Packet k) o ≡ false → is_load (ReplyTo k) (answer_to o) ≡ false
no_reply k None is = refl
no_reply k (Some (Packet i)) is = is
no_reply k (Some (ReplyTo i)) is = refl

-- what isn't carried in front of more isn't there
in_front : (l : Load) (xs ys : List (Option Load)) (o : Option ℕ) → is_load l (option_and_then (load_at (xs ++ ys)) o) ≡ false → is_load l (option_and_then (load_at xs) o) ≡ false
in_front l xs ys None is = refl
in_front l [] ys (Some e) is = refl
in_front l (x ∷ xs) ys (Some zero) is = is
in_front l (x ∷ xs) ys (Some (suc e)) is = in_front l xs ys (Some e) is

-- WHAT IS SAID

module _ (l : Load) where
  none_said : (i : ℕ) (r : Full) (ss : List Saying) → AllByRecursion (λ (s : Saying). same_load l s.load ≡ false) ss → filter (is_said_of l) (map (saying_by i r) ss) ≡ []
  none_said i r [] all = refl
  none_said i r (s ∷ ss) all = rw all.0 (none_said i r ss all.1)

  -- arrivals are among what is said of it
  arrivals_said : (ts : List NumberedSaying) → filter (is_arrival_of l) ts ≡ filter (λ (s : NumberedSaying). is_arrival s.saying.way) (filter (is_said_of l) ts)
  arrivals_said [] = refl
  arrivals_said (s ∷ ts) = by (arrivals_said ts) (is_said_of l s) refl (is_arrival s.saying.way) refl where
    by : filter (is_arrival_of l) ts ≡ filter (λ (x : NumberedSaying). is_arrival x.saying.way) (filter (is_said_of l) ts) → (b : Bool) → is_said_of l s ≡ b → (c : Bool) → is_arrival s.saying.way ≡ c
        → filter (is_arrival_of l) (s ∷ ts) ≡ filter (λ (x : NumberedSaying). is_arrival x.saying.way) (filter (is_said_of l) (s ∷ ts))
    by more false said c way = rw said more
    by more true said true way = rw (said, way) (ap (λ (xs : List NumberedSaying). s ∷ xs) more)
    by more true said false way = rw (said, way) more

-- RECORD BY RECORD

-- so far it stays gone, nothing more was said of it, and nothing more carries it
record HasStayed (t : TopologyState) (H later : List Full) (l : Load) : Type 0 where
  gone : IsGoneFrom t l (later ++ H)
  unsaid : said_of_load t (later ++ H) l ≡ said_of_load t H l
  uncarried : (e : ℕ) → load_at (loads t (later ++ H)).wire e ≡ Some l → load_at (loads t H).wire e ≡ Some l

module _ (lab : Lab) (H : List Full) (l : Load) where
  abbrev t : TopologyState
  t = lab.topology

  at_first : IsGoneFrom t l H → HasStayed t H [] l
  at_first gone = record { gone = gone; unsaid = refl; uncarried = λ e is. is }

  one_later : (r : Full) (later : List Full) → Grown lab (r ∷ later ++ H) → is_load l (brought t l (later ++ H) r) ≡ false → is_load l (answer_to (brought t l (later ++ H) r)) ≡ false
      → HasStayed t H later l → HasStayed t H (r ∷ later) l
  one_later r later grown other answer was =
      let before = later ++ H in
      let since : now before ≤ r.moment = laws.later lab before r grown in
      record {
        gone = still_gone t l before r was.gone since other answer (not_earlier lab before r grown);
        unsaid = filter-append (is_said_of l) (all_sayings t before) (map (saying_by (length before) r) (sayings_of t before (loads t before) r))
            ∙ ap (λ (xs : List NumberedSaying). said_of_load t before l ++ xs) (none_said l (length before) r (sayings_of t before (loads t before) r) (says_of_others t l before r was.gone since other answer))
            ∙ append-nil (said_of_load t before l) ∙ was.unsaid;
        uncarried = λ e is. was.uncarried e (carried_then t l before r was.gone since other answer e is);
      }

-- a packet
module _ (lab : Lab) (H : List Full) (k : ℕ) (gone : IsGoneFrom lab.topology (Packet k) H) where
  packet_stays : (later : List Full) → Grown lab (later ++ H) → NoneDelivers lab.topology H later (Packet k) → HasStayed lab.topology H later (Packet k)
  packet_stays [] grown none = at_first lab H (Packet k) gone
  packet_stays (r ∷ later) grown none = by (packet_stays later grown.1 none.1) where
    other : ((e : ℕ) → load_at (loads lab.topology (later ++ H)).wire e ≡ Some (Packet k) → load_at (loads lab.topology H).wire e ≡ Some (Packet k))
        → (o : Option ℕ) → is_load (Packet k) (option_and_then (load_at (loads lab.topology H).wire) o) ≡ false
        → (b : Bool) → is_load (Packet k) (option_and_then (load_at (loads lab.topology (later ++ H)).wire) o) ≡ b → b ≡ false
    other uncarried o not false is = refl
    other uncarried None not true is = absurd (cc is)
    other uncarried (Some e) not true is =
        let here : load_at (loads lab.topology H).wire e ≡ Some (Packet k) = uncarried e (load_is (Packet k) (load_at (loads lab.topology (later ++ H)).wire e) is) in
        let no : true ≡ false = sym (same_itself (Packet k)) ∙ sym (ap (is_load (Packet k)) here) ∙ not in absurd (cc no)

    by : HasStayed lab.topology H later (Packet k) → HasStayed lab.topology H (r ∷ later) (Packet k)
    by was = one_later lab H (Packet k) r later grown
        (other was.uncarried r.delivered none.0 (is_load (Packet k) (brought lab.topology (Packet k) (later ++ H) r)) refl)
        (no_packet k (brought lab.topology (Packet k) (later ++ H) r)) was

-- a reply
module _ (lab : Lab) (H : List Full) (k : ℕ) (gone : IsGoneFrom lab.topology (ReplyTo k) H) where
  -- no record delivers an entry with the reply or its packet, where entries carry these
  abbrev NoneOfBoth : List (Option Load) → List Full → Type 0
  NoneOfBoth wire rs = AllByRecursion (λ (r : Full). (delivers_load wire (ReplyTo k) r ≡ false) × (delivers_load wire (Packet k) r ≡ false)) rs

  with_fewer : (xs ys : List (Option Load)) (rs : List Full) → NoneOfBoth (xs ++ ys) rs → NoneOfBoth xs rs
  with_fewer xs ys [] none = tt
  with_fewer xs ys (r ∷ rs) none = ((in_front (ReplyTo k) xs ys r.delivered none.0.0, in_front (Packet k) xs ys r.delivered none.0.1), with_fewer xs ys rs none.1)

  reply_stays : (later : List Full) → Grown lab (later ++ H) → NoneOfBoth (loads lab.topology (later ++ H)).wire later → HasStayed lab.topology H later (ReplyTo k)
  reply_stays [] grown none = at_first lab H (ReplyTo k) gone
  reply_stays (r ∷ later) grown none =
      let before = later ++ H in
      let ls = loads lab.topology before in
      let so_far = with_fewer ls.wire (entry_loads r.made (made_loads lab.topology before ls r)) (r ∷ later) none in
      one_later lab H (ReplyTo k) r later grown so_far.0.0 (no_reply k (brought lab.topology (ReplyTo k) before r) so_far.0.1) (reply_stays later grown.1 so_far.1)

stays_by : (lab : Lab) (H later : List Full) (l : Load) → Grown lab (later ++ H) → IsGoneFrom lab.topology l H → NoneDelivers lab.topology H later l → HasStayed lab.topology H later l
stays_by lab H later (Packet k) grown gone none = packet_stays lab H k gone later grown none
stays_by lab H later (ReplyTo k) grown gone none = reply_stays lab H k gone later grown none

-- THE END

module _ (t : TopologyState) (H : List Full) (l : Load) (gone : IsGone t H l) where
  abbrev ls : Loads
  ls = loads t H

  from_none : (i : ℕ) → i ≡ 0 + i
  from_none i = omega arith

  le_itself : (m : ℕ) → m ≤ m
  le_itself m = omega arith

  none_among : (f : Ip6 → Bool) → ((p : Ip6) → f p ≡ false) → (ps : List Ip6) → list_any f ps ≡ false
  none_among f each [] = refl
  none_among f each (p ∷ ps) = rw (each p) (none_among f each ps)

  waits_nowhere : waiting_node t H ls l ≡ None
  waits_nowhere = none_found (λ (n : ℕ) (a : Node). waits_among ls l (numbered_mentions H n a) (now H)) 0 (nodes t)
      (λ i a there. subst (λ (n : ℕ). waits_among ls l (numbered_mentions H n a) (now H) ≡ false) (from_none i)
      (none_among (λ (p : Ip6). list_any (carries ls l) (waiting_records (numbered_mentions H i a) (now H) p)) (λ p. gone.waits i a (now H) p there (le_itself (now H)))
      (listed (numbered_mentions H i a) (now H))))

  held_nowhere : holding_node t H ls l ≡ None
  held_nowhere = none_found (λ (n : ℕ) (a : Node). is_held_among ls l (numbered_mentions H n a) (now H)) 0 (nodes t)
      (λ i a there. subst (λ (n : ℕ). is_held_among ls l (numbered_mentions H n a) (now H) ≡ false) (from_none i)
      (none_among (λ (p : Ip6). list_any (λ (h : HeldRecord). carries ls l h.number) (held_for (numbered_mentions H i a) (now H) p)) (λ p. gone.held i a (now H) p there (le_itself (now H)))
      (listed (numbered_mentions H i a) (now H))))

  on_no_wire : open_entry H l 0 ls.wire ≡ None
  on_no_wire = none_open H l 0 ls.wire (λ e carried. subst (λ (k : ℕ). was_delivered k H ≡ true) (from_none e) (gone.delivered e carried))

  pub lost_still : (j : ℕ) → first_number (filter (is_arrival_of l) (all_sayings t H)) ≡ None → last_number_of (filter (is_said_of l) (all_sayings t H)) ≡ Some j → end_after t H l ≡ Some (Lost j)
  lost_still j arrived said = rw (arrived, waits_nowhere, held_nowhere, on_no_wire, said) refl

pub lost_stays_lost : LostStaysLost
lost_stays_lost lab H later l j grown is none =
    let t = lab.topology in
    let stayed = stays_by lab H later l grown (is_gone_from t H l j is) none in
    let still = as_gone t (later ++ H) l stayed.gone in
    let was = parts t H l j is in
    record {
      is_gone = as_gone t H l (is_gone_from t H l j is);
      still_gone = still;
      unsaid = stayed.unsaid;
      uncarried = stayed.uncarried;
      is_lost = lost_still t (later ++ H) l still j
          (ap first_number (arrivals_said l (all_sayings t (later ++ H)) ∙ ap (filter (λ (s : NumberedSaying). is_arrival s.saying.way)) stayed.unsaid ∙ sym (arrivals_said l (all_sayings t H)))
          ∙ was.no_arrival)
          (ap last_number_of stayed.unsaid ∙ was.last_said);
    }
