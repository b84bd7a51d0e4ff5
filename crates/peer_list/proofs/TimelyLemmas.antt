-- A listed peer is still listed when it is due: each call keeps that, and so whoever is due first waits then.
use Rattle.peer_list.proofs.Words.{AreTimely, Bool, Change, Ep, Err, FirstLasts, GiveUp, Hear, Ip6, IsTimely, KnowsStill, KnowsThen, LISTED_MS, List, Listing, Millis, None, Ok, OnErr, OnOk, Option, Peer, Result, Some, TRY_GAP_MS, Table, Touch, Trust, TrustAndHear, Try, [], ap, arith, changed_at, cond, due_and_who, due_of, emptied, false, false≢true, find, first_due_in, heard_at, held_at, is_none, is_of, is_some, is_within, known_to, lt-ltb, ltb-true, max, no_peer, option_map, option_or, peer_in, peer_listed, queued_at, refl, same_ip6, subst, sym, table, table_after, touched_at, tried_at, true, trusted_at, unwrap_or, while_listed, ℕ, ◌+◌, ◌∙◌, ◌≡◌, ◌≤◌}
use Rattle.peer_list.proofs.TableLemmas.{listed_while, within_of, found_is_listed, other_peer}
use Rattle.peer_list.proofs.OverdueLemmas.{later_same, first_overdue, overdue_of}

-- ONE PEER

later_too : (m n : ℕ) (peer : Peer) → m ≤ n → IsTimely m peer → IsTimely n peer
later_too m n peer l h = record { touched = h.touched; at = h.at; past = omega (arith, h.past, l); due = h.due }

-- a table before a call at n about who
module _ (t : Table) (n : ℕ) (who : Ip6) (all : AreTimely t) (later : t.moment ≤ n) where
  found_by : (o : Option Peer) → peer_in t n who ≡ o → is_some o ≡ true → IsTimely n (unwrap_or o no_peer)
  found_by None e h = absurd (false≢true h)
  found_by (Some peer) e h =
      let before = later_same t t.moment n who later (ap is_some e) in
      later_too t.moment n peer later (all who peer (sym before ∙ e))

  pub found : is_some (peer_in t n who) ≡ true → IsTimely n (known_to t n who)
  found h = found_by (peer_in t n who) refl h

  soon_by : (o : Option Peer) → peer_in t n who ≡ o → due_of (unwrap_or o no_peer) ≤ n + TRY_GAP_MS
  unfolding due_of
  soon_by None e = omega arith
  soon_by (Some peer) e = let h = found_by (Some peer) e refl in omega (arith, h.past, h.due)

  -- its next try is due a gap from now, or before
  pub soon : due_of (known_to t n who) ≤ n + TRY_GAP_MS
  soon = soon_by (peer_in t n who) refl

  -- WHAT A CALL MAKES OF IT

  pub touched_so : IsTimely n (touched_at n (known_to t n who))
  unfolding due_of
  touched_so = record { touched = n; at = refl; past = omega arith; due = soon }

  pub queued_so : (packet : List ℕ) → IsTimely n (queued_at n packet (known_to t n who))
  unfolding due_of
  queued_so packet = record { touched = n; at = refl; past = omega arith; due = soon }

  -- of one that isn't listed nothing is known, and it is due at once
  held_by : (from : Ep) (packet : List ℕ) (o : Option Peer) → peer_in t n who ≡ o → IsTimely n (held_at n from packet (unwrap_or o no_peer))
  unfolding due_of
  held_by from packet None e = record { touched = n; at = refl; past = omega arith; due = omega arith }
  held_by from packet (Some peer) e =
      let f = found_by (Some peer) e refl in
      record { touched = f.touched; at = ap (λ (m : Option ℕ). option_or m (Some n)) f.at; past = f.past; due = f.due }

  pub held_so : (from : Ep) (packet : List ℕ) → IsTimely n (held_at n from packet (known_to t n who))
  held_so from packet = held_by from packet (peer_in t n who) refl

  trusted_so : (at : Ep) → IsTimely n (trusted_at n at (known_to t n who))
  unfolding due_of
  trusted_so at = record { touched = n; at = refl; past = omega arith; due = omega arith }

  heard_so : IsTimely n (heard_at n (known_to t n who))
  unfolding due_of
  heard_so = record { touched = n; at = refl; past = omega arith; due = omega arith }

  trusted_and_heard_so : (at : Ep) → IsTimely n (heard_at n (trusted_at n at (known_to t n who)))
  unfolding due_of
  trusted_and_heard_so at = record { touched = n; at = refl; past = omega arith; due = omega arith }

  tried_so : (test : Option ℕ) → IsTimely n (tried_at n test (known_to t n who))
  unfolding due_of
  tried_so test = record { touched = n; at = refl; past = omega arith; due = omega arith }

  emptied_so : is_some (peer_in t n who) ≡ true → IsTimely n (emptied (known_to t n who))
  unfolding due_of
  emptied_so h = let f = found h in record { touched = f.touched; at = f.at; past = f.past; due = f.due }

  pub changed_so : (change : Change) → is_some (peer_in t n who) ≡ true → IsTimely n (changed_at n change (known_to t n who))
  changed_so Touch h = touched_so
  changed_so (Trust at) h = trusted_so at
  changed_so Hear h = heard_so
  changed_so (TrustAndHear at) h = trusted_and_heard_so at
  changed_so (Try test) h = tried_so test
  changed_so GiveUp h = emptied_so h

-- A TABLE AFTER A CALL

listed_is : (n : ℕ) (one peer : Peer) → while_listed n one ≡ Some peer → one ≡ peer
listed_is n one peer h = by_test (is_within LISTED_MS n one.touched) h where
  by_test : (b : Bool) → cond b (Some one) None ≡ Some peer → one ≡ peer
  by_test true k = ap (λ (o : Option Peer). unwrap_or o one) k
  by_test false k = absurd (false≢true (ap is_some k))

pub timely_updated : (old new : Table) (n : ℕ) (who : Ip6) (one : Peer) → AreTimely old → old.moment ≤ n → IsTimely n one → KnowsThen old new n who one → AreTimely new
timely_updated old new n who one all later so u p peer h =
    subst (λ (m : ℕ). IsTimely m peer) (sym u.moment) (by_test (same_ip6 p who) (sym (u.view n p (omega arith)) ∙ ap (λ (m : ℕ). peer_in new m p) (sym u.moment) ∙ h)) where
      by_test : (b : Bool) → cond b (while_listed n one) (peer_in old n p) ≡ Some peer → IsTimely n peer
      by_test true k = subst (IsTimely n) (listed_is n one peer k) so
      by_test false k = subst (λ (o : Option Peer). IsTimely n (unwrap_or o no_peer)) k (found old n p all later (ap is_some k))

pub timely_kept : (old new : Table) (n : ℕ) → AreTimely old → old.moment ≤ n → KnowsStill old new n → AreTimely new
timely_kept old new n all later k p peer h =
    let before : peer_in old n p ≡ Some peer = sym (k.view n p (omega arith)) ∙ ap (λ (m : ℕ). peer_in new m p) (sym k.moment) ∙ h in
    subst (λ (m : ℕ). IsTimely m peer) (sym k.moment) (subst (λ (o : Option Peer). IsTimely n (unwrap_or o no_peer)) before (found old n p all later (ap is_some before)))

pub timely_answered : {A : Type 0} {E : Type 0} (old new : Table) (n : ℕ) (who : Ip6) (one : Peer) (r : Result A E) → AreTimely old
    → old.moment ≤ n → IsTimely n one → OnOk r (KnowsThen old new n who one) → OnErr r (KnowsStill old new n) → AreTimely new
timely_answered old new n who one (Ok _) all later so u k = timely_updated old new n who one all later so u
timely_answered old new n who one (Err _) all later so u k = timely_kept old new n all later k

pub timely_empty : (t : Table) → t.listings ≡ [] → AreTimely t
unfolding peer_in
timely_empty t none p peer h = absurd (false≢true (ap is_some (sym (ap (λ (ls : List Listing). peer_listed t.moment (find (is_of p) ls)) none) ∙ h)))

-- whomever the latest call changed
pub timely_after : (k : ℕ) (last : Option Ip6) (ls : List Listing) → AreTimely (table k ls) → AreTimely (table_after k last ls)
unfolding peer_in
timely_after k last ls all p peer h = all p peer h

-- time alone
pub timely_later : (k n : ℕ) (ls : List Listing) → k ≤ n → AreTimely (table k ls) → AreTimely (table n ls)
timely_later k n ls later all p peer h =
    let before : peer_in (table k ls) n p ≡ Some peer = other_peer k n None n p ls ∙ h in
    subst (λ (o : Option Peer). IsTimely n (unwrap_or o no_peer)) before (found (table k ls) n p all later (ap is_some before))

-- WHO IS DUE FIRST

-- a peer stays listed for longer than the gap
within_by : (n k : ℕ) (o : Option ℕ) (touched : ℕ) → o ≡ Some touched → k ≤ max n (touched + TRY_GAP_MS) → is_within LISTED_MS n o ≡ true → is_within LISTED_MS k o ≡ true
within_by n k None touched e l h = absurd (false≢true h)
within_by n k (Some m) touched e l h =
    let same : m ≡ touched = ap (λ (o : Option ℕ). unwrap_or o m) e in
    let young = ltb-true _ _ h in
    lt-ltb _ _ (omega (arith, same, young, l))

stays_by : (n k : ℕ) (o : Option Listing) → is_some (peer_listed n o) ≡ true → is_within LISTED_MS k (unwrap_or (peer_listed n o) no_peer).touched ≡ true → peer_listed k o ≡ Some (unwrap_or (peer_listed n o) no_peer)
stays_by n k None h w = absurd (false≢true h)
stays_by n k (Some l) h w =
    let is : unwrap_or (while_listed n l.peer) no_peer ≡ l.peer = ap (λ (o : Option Peer). unwrap_or o no_peer) (listed_while n l.peer h) in
    let young : is_within LISTED_MS k l.peer.touched ≡ true = ap (λ (p : Peer). is_within LISTED_MS k p.touched) (sym is) ∙ w in
    ap (λ (b : Bool). cond b (Some l.peer) None) young ∙ ap Some (sym is)

stays : (t : Table) (n k : ℕ) (p : Ip6) → is_some (peer_in t n p) ≡ true → is_within LISTED_MS k (known_to t n p).touched ≡ true → peer_in t k p ≡ Some (known_to t n p)
unfolding peer_in
stays t n k p h w = stays_by n k (find (is_of p) t.listings) h w

lasts_by : (t : Table) (n : ℕ) → AreTimely t → t.moment ≤ n → (o : Option Listing) → first_due_in t n ≡ o → FirstLasts t n (option_map due_and_who o)
lasts_by t n all later None e = tt
lasts_by t n all later (Some l) e =
    let f = first_overdue t n l e in
    let k : ℕ = max n (due_of l.peer) in
    let so = found t n l.who all later f.listed in
    let due : due_of l.peer ≡ due_of (known_to t n l.who) = ap (λ (p : Peer). due_of p) f.peer in
    let young = within_by n k (known_to t n l.who).touched so.touched so.at (omega (arith, due, so.due)) (within_of n (known_to t n l.who) (found_is_listed t n l.who f.listed)) in
    let still : peer_in t k l.who ≡ Some (known_to t n l.who) = stays t n k l.who f.listed young in
    let known : known_to t k l.who ≡ known_to t n l.who = ap (λ (o : Option Peer). unwrap_or o no_peer) still in
    let then : due_of (known_to t k l.who) ≡ due_of (known_to t n l.who) = ap (λ (p : Peer). due_of p) known in
    overdue_of t k l.who (ap is_some still) (ap (λ (p : Peer). is_none p.waiting) known ∙ f.waits) (omega (arith, due, then))

pub first_lasts : (t : Table) (n : ℕ) → AreTimely t → t.moment ≤ n → (r : Option (Millis × Ip6)) → r ≡ option_map due_and_who (first_due_in t n) → FirstLasts t n r
first_lasts t n all later r e = subst (FirstLasts t n) (sym e) (lasts_by t n all later (first_due_in t n) refl)
