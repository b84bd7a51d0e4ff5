-- How much is due of a table's peers.
use Rattle.peer_list.proofs.Words.{Bool, Equal, FirstIsEarliest, FirstOverdue, Greater, Ip6, IsFirstBy, IsFirstOverdue, IsPutOff, LISTED_MS, Less, LessOverdue, List, Listing, Mention, Millis, None, NothingOverdue, Option, Ordering, Peer, Some, Table, Updates, [], any-filter_same, ap, arith, cmp_due, cmp_ip6, cond, due_and_who, due_moment, due_of, false, false≢true, filter, find, first_among, is_lt, is_none, is_of, is_some, is_within, known_to, le-leb, length, listed, listed_in, lt-leb, ltb-false, nat_cmp, nat_eq, nat_le, nat_lt, no_peer, not, option_map, or_left, or_right, ordering_then, overdue_in, peer_in, peer_listed, refl, same_ip6, same_ip6-self, same_ip6-true, subst, sum_by, sum_by-cons, sym, true, unwrap_or, waiting_among, while_due, while_listed, ℕ, ◌&&◌, ◌<◌, ◌||◌, ◌∙◌, ◌∷◌, ◌≡◌, ◌≤◌}
use Rattle.peer_list.specs.Peers.{known}
use Rattle.peer_list.proofs.Lists.{listed_are}
use Rattle.peer_list.proofs.Orders.{has, SameMembers, IsLeast, IsBest, best, first_of, same_waiting}
use Rattle.peer_list.proofs.TableLemmas.{within_before, listed_while, members, members_once}

-- SUMS

none_of : (w : Ip6 → ℕ) (ps : List Ip6) → ((p : Ip6) → has p ps ≡ true → w p ≡ 0) → sum_by w ps ≡ 0
none_of w [] z = refl
none_of w (p ∷ ps) z =
    let first : w p ≡ 0 = z p (or_left (same_ip6 p p) (has p ps) (same_ip6-self p)) in
    let rest : sum_by w ps ≡ 0 = none_of w ps (λ q h. z q (or_right (same_ip6 q p) (has q ps) h)) in
    omega (arith, sum_by-cons w p ps, first, rest)

pub at_most : (w v : Ip6 → ℕ) (ps : List Ip6) → ((q : Ip6) → w q ≤ v q) → sum_by w ps ≤ sum_by v ps
at_most w v [] all = omega arith
at_most w v (q ∷ ps) all =
    let one : w q ≤ v q = all q in
    let rest : sum_by w ps ≤ sum_by v ps = at_most w v ps all in
    omega (arith, sum_by-cons w q ps, sum_by-cons v q ps, one, rest)

pub less_of : (w v : Ip6 → ℕ) (p : Ip6) (ps : List Ip6) → ((q : Ip6) → w q ≤ v q) → w p < v p → has p ps ≡ true → sum_by w ps < sum_by v ps
less_of w v p [] all one h = absurd (false≢true h)
less_of w v p (q ∷ ps) all one h = by_test (same_ip6 p q) refl h (less_of w v p ps all one) where
  by_test : (b : Bool) → same_ip6 p q ≡ b → (b || has p ps) ≡ true → (has p ps ≡ true → sum_by w ps < sum_by v ps) → sum_by w (q ∷ ps) < sum_by v (q ∷ ps)
  by_test true is k rest =
      let here : w q < v q = subst (λ x. w x < v x) (same_ip6-true p q is) one in
      let others : sum_by w ps ≤ sum_by v ps = at_most w v ps all in
      omega (arith, sum_by-cons w q ps, sum_by-cons v q ps, here, others)
  by_test false is k rest =
      let here : w q ≤ v q = all q in
      let others : sum_by w ps < sum_by v ps = rest k in
      omega (arith, sum_by-cons w q ps, sum_by-cons v q ps, here, others)

-- WHAT IS LISTED LATER WAS THE SAME BEFORE

later_by : (n m : ℕ) (o : Option Listing) → n ≤ m → is_some (peer_listed m o) ≡ true → peer_listed m o ≡ peer_listed n o
later_by n m None l h = refl
later_by n m (Some x) l h =
    let now : while_listed m x.peer ≡ Some x.peer = listed_while m x.peer h in
    let young : is_within LISTED_MS m x.peer.touched ≡ true = by_test (is_within LISTED_MS m x.peer.touched) refl h in
    now ∙ sym (ap (λ b. cond b (Some x.peer) None) (within_before n m x.peer.touched l young)) where
      by_test : (b : Bool) → is_within LISTED_MS m x.peer.touched ≡ b → is_some (cond b (Some x.peer) None) ≡ true → is_within LISTED_MS m x.peer.touched ≡ true
      by_test true e k = e
      by_test false e k = absurd (false≢true k)

pub later_same : (t : Table) (n m : ℕ) (p : Ip6) → n ≤ m → is_some (peer_in t m p) ≡ true → peer_in t m p ≡ peer_in t n p
unfolding peer_in
later_same t n m p l h = later_by n m (find (is_of p) t.listings) l h

-- WHO WAITS

none_waiting : (ps : List (List ℕ)) → is_none ps ≡ true → length ps ≡ 0
none_waiting [] h = refl
none_waiting (x ∷ ps) h = absurd (false≢true h)

some_waiting : (ps : List (List ℕ)) → is_none ps ≡ false → 0 < length ps
some_waiting [] h = absurd (false≢true (sym h))
some_waiting (x ∷ ps) h = omega arith

-- of one for whom nothing waits nothing is due
due_none : (n : ℕ) (peer : Peer) → is_none peer.waiting ≡ true → length (while_due n peer).waiting ≡ 0
due_none n peer h = by_test (nat_le (due_of peer) n) where
  by_test : (b : Bool) → length (cond b peer no_peer).waiting ≡ 0
  by_test true = none_waiting peer.waiting h
  by_test false = refl

-- nor of one that is due later
due_later : (n : ℕ) (peer : Peer) → n < due_of peer → length (while_due n peer).waiting ≡ 0
due_later n peer l = by_test (nat_le (due_of peer) n) refl where
  by_test : (b : Bool) → nat_le (due_of peer) n ≡ b → length (cond b peer no_peer).waiting ≡ 0
  by_test true e = absurd (false≢true (sym (lt-leb (due_of peer) n l) ∙ e))
  by_test false e = refl

due_now : (n : ℕ) (peer : Peer) → due_of peer ≤ n → while_due n peer ≡ peer
due_now n peer l = ap (λ b. cond b peer no_peer) (le-leb (due_of peer) n l)

abbrev waits : (Ip6 → Peer) → Ip6 → Bool
waits f p = not (is_none (f p).waiting)

kept : (f : Ip6 → Peer) (ps : List Ip6) (p : Ip6) → has p (filter (waits f) ps) ≡ (waits f p && has p ps)
kept f ps p = any-filter_same (same_ip6 p) (waits f) (waits f p) (λ q is. ap (waits f) (sym (same_ip6-true p q is))) ps

-- where none is first nobody waits
nobody : (f : Ip6 → Peer) (ps : List Ip6) (p : Ip6) → first_among f ps ≡ None → has p ps ≡ true → is_none (f p).waiting ≡ true
unfolding first_among
nobody f ps p e h =
    let none : IsBest f (filter (waits f) ps) None = subst (λ o. IsBest f (filter (waits f) ps) o) e (best f (filter (waits f) ps)) in
    by_test (is_none (f p).waiting) refl (sym (kept f ps p) ∙ none p) where
      by_test : (b : Bool) → is_none (f p).waiting ≡ b → (not b && has p ps) ≡ false → is_none (f p).waiting ≡ true
      by_test true is k = is
      by_test false is k = absurd (false≢true (sym k ∙ h))

pub not_less : (a b : ℕ) (c : Ordering) → is_lt (ordering_then (nat_cmp a b) c) ≡ false → b ≤ a
not_less a b c h = by_test (nat_lt a b) refl where
  by_test : (t : Bool) → nat_lt a b ≡ t → b ≤ a
  by_test true e = absurd (false≢true (sym h ∙ ap (λ t. is_lt (ordering_then (cond t Less (cond (nat_eq a b) Equal Greater)) c)) e))
  by_test false e = ltb-false a b e

-- whoever waits is due no earlier than the first
no_earlier : (f : Ip6 → Peer) (ps : List Ip6) (first p : Ip6) → first_among f ps ≡ Some first → has p ps ≡ true → is_none (f p).waiting ≡ false → due_of (f first) ≤ due_of (f p)
unfolding first_among cmp_due
no_earlier f ps first p e h w =
    let least : IsLeast f first (filter (waits f) ps) = subst (λ o. IsBest f (filter (waits f) ps) o) e (best f (filter (waits f) ps)) in
    let among : has p (filter (waits f) ps) ≡ true = kept f ps p ∙ ap (λ b. not b && has p ps) w ∙ h in
    not_less (due_of (f p)) (due_of (f first)) (cmp_ip6 p first) (least.1 p among)

first_by_due : (j : List Mention) (n : ℕ) (p : Ip6) (o : Option Ip6) → first_among (known j n) (listed j n) ≡ o → has p (listed j n) ≡ true → is_none (known j n p).waiting ≡ false
    → IsFirstBy (due_of (known j n p)) (option_map {U = Listing} (λ q. record { who = q; peer = known j n q }) o)
first_by_due j n p None e h w = false≢true (sym w ∙ nobody (known j n) (listed j n) p e h)
first_by_due j n p (Some first) e h w = no_earlier (known j n) (listed j n) first p e h w

pub first_is_earliest : FirstIsEarliest
first_is_earliest j n p h w = first_by_due j n p (first_among (known j n) (listed j n)) refl (listed_are j n p ∙ h) w

-- THE LAWS

nothing_by : (t : Table) (n m : ℕ) (o : Option Ip6) → n ≤ m → first_among (known_to t n) (listed_in t n) ≡ o → option_map {U = Listing} (λ p. record { who = p; peer = known_to t n p }) o ≡ None → overdue_in t m ≡ 0
unfolding overdue_in waiting_among
nothing_by t n m (Some p) l e h = absurd (false≢true (sym (ap is_some h)))
nothing_by t n m None l e h = none_of (λ p. length (while_due m (known_to t m p)).waiting) (listed_in t m) (λ p there.
    let listed : is_some (peer_in t m p) ≡ true = sym (members t m p) ∙ there in
    let same : peer_in t m p ≡ peer_in t n p = later_same t n m p l listed in
    let before : has p (listed_in t n) ≡ true = members t n p ∙ sym (ap is_some same) ∙ listed in
    due_none m (known_to t m p) (ap (λ (q : Option Peer). is_none (unwrap_or q no_peer).waiting) same ∙ nobody (known_to t n) (listed_in t n) p e before))

pub nothing_overdue : NothingOverdue
nothing_overdue t n m l e = nothing_by t n m (first_among (known_to t n) (listed_in t n)) l refl e

before_first : (t : Table) (n m : ℕ) (first : Ip6) → n ≤ m → first_among (known_to t n) (listed_in t n) ≡ Some first → m < due_of (known_to t n first) → overdue_in t m ≡ 0
unfolding overdue_in waiting_among
before_first t n m first l e early = none_of (λ p. length (while_due m (known_to t m p)).waiting) (listed_in t m) (λ p there.
    let listed : is_some (peer_in t m p) ≡ true = sym (members t m p) ∙ there in
    let same : peer_in t m p ≡ peer_in t n p = later_same t n m p l listed in
    let before : has p (listed_in t n) ≡ true = members t n p ∙ sym (ap is_some same) ∙ listed in
    let known : known_to t m p ≡ known_to t n p = ap (λ (q : Option Peer). unwrap_or q no_peer) same in
    ap (λ (q : Peer). length (while_due m q).waiting) known ∙ by_waiting p before (is_none (known_to t n p).waiting) refl) where
      by_waiting : (p : Ip6) → has p (listed_in t n) ≡ true → (b : Bool) → is_none (known_to t n p).waiting ≡ b → length (while_due m (known_to t n p)).waiting ≡ 0
      by_waiting p before true w = due_none m (known_to t n p) w
      by_waiting p before false w = let later = no_earlier (known_to t n) (listed_in t n) first p e before w in due_later m (known_to t n p) (omega (arith, early, later))

-- something is due where packets wait for a listed peer that is due
pub overdue_of : (t : Table) (n : ℕ) (p : Ip6) → is_some (peer_in t n p) ≡ true → is_none (known_to t n p).waiting ≡ false → due_of (known_to t n p) ≤ n → 0 < overdue_in t n
unfolding overdue_in waiting_among
overdue_of t n p listed waits past =
    let some : 0 < length (while_due n (known_to t n p)).waiting = subst (λ (q : Peer). 0 < length q.waiting) (sym (due_now n (known_to t n p) past)) (some_waiting (known_to t n p).waiting waits) in
    let less = less_of (λ _. 0) (λ q. length (while_due n (known_to t n q)).waiting) p (listed_in t n) (λ q. omega arith) some (members t n p ∙ listed) in
    omega (arith, less)

at_first : (t : Table) (n : ℕ) (first : Ip6) → first_among (known_to t n) (listed_in t n) ≡ Some first → due_of (known_to t n first) ≤ n → 0 < overdue_in t n
at_first t n first e past = let parts = first_of (known_to t n) (listed_in t n) first e in overdue_of t n first (sym (members t n first) ∙ parts.1) parts.0 past

first_by : (t : Table) (n : ℕ) (l : Listing) (o : Option Ip6) → first_among (known_to t n) (listed_in t n) ≡ o → option_map (λ p. record { who = p; peer = known_to t n p }) o ≡ Some l → IsFirstOverdue t n l
first_by t n l None e k = absurd (false≢true (ap is_some k))
first_by t n l (Some p) e k = subst (λ (x : Listing). IsFirstOverdue t n x) (ap (λ (o : Option Listing). unwrap_or o l) k) (record {
  peer = refl;
  listed = sym (members t n p) ∙ (first_of (known_to t n) (listed_in t n) p e).1;
  waits = (first_of (known_to t n) (listed_in t n) p e).0;
  before = λ m later early. before_first t n m p later e early;
  now = λ past. at_first t n p e past;
})

pub first_overdue : FirstOverdue
first_overdue t n l e = first_by t n l (first_among (known_to t n) (listed_in t n)) refl e

-- when, of when and who
pub moment_of_first : (o : Option Listing) → option_map (λ (x : Millis × Ip6). x.0.0) (option_map due_and_who o) ≡ option_map due_moment o
moment_of_first None = refl
moment_of_first (Some l) = refl

-- the same are listed after a call about one that was
same_listed : (old new : Table) (n : ℕ) (who : Ip6) (peer : Peer) → IsPutOff old n who peer → Updates old new n who peer → SameMembers (listed_in new n) (listed_in old n)
same_listed old new n who peer o u p = members new n p ∙ by_test (same_ip6 p who) refl ∙ sym (members old n p) where
  by_test : (b : Bool) → same_ip6 p who ≡ b → is_some (peer_in new n p) ≡ is_some (peer_in old n p)
  by_test true e =
      ap is_some (u.view n p (omega arith) ∙ ap (λ b. cond b (while_listed n peer) (peer_in old n p)) e ∙ o.stays)
      ∙ sym (ap (λ x. is_some (peer_in old n x)) (same_ip6-true p who e) ∙ o.listed)
  by_test false e = ap is_some (u.view n p (omega arith) ∙ ap (λ b. cond b (while_listed n peer) (peer_in old n p)) e)

-- of each address what is due is no more
no_more : (old new : Table) (n : ℕ) (who : Ip6) (peer : Peer) → IsPutOff old n who peer → Updates old new n who peer → (q : Ip6)
    → length (while_due n (known_to new n q)).waiting ≤ length (while_due n (known_to old n q)).waiting
no_more old new n who peer o u q = by_test (same_ip6 q who) refl where
  by_test : (b : Bool) → same_ip6 q who ≡ b → length (while_due n (known_to new n q)).waiting ≤ length (while_due n (known_to old n q)).waiting
  by_test true e =
      let known : known_to new n q ≡ peer = ap (λ (x : Option Peer). unwrap_or x no_peer) (u.view n q (omega arith) ∙ ap (λ b. cond b (while_listed n peer) (peer_in old n q)) e ∙ o.stays) in
      let zero : length (while_due n (known_to new n q)).waiting ≡ 0 = ap (λ (x : Peer). length (while_due n x).waiting) known ∙ none_waiting (while_due n peer).waiting o.over in
      omega (arith, zero)
  by_test false e =
      let same : length (while_due n (known_to new n q)).waiting ≡ length (while_due n (known_to old n q)).waiting =
      ap (λ (x : Option Peer). length (while_due n (unwrap_or x no_peer)).waiting) (u.view n q (omega arith) ∙ ap (λ b. cond b (while_listed n peer) (peer_in old n q)) e) in
      omega (arith, same)

-- and of this one it is less
less_here : (old new : Table) (n : ℕ) (who : Ip6) (peer : Peer) → IsPutOff old n who peer → Updates old new n who peer
    → length (while_due n (known_to new n who)).waiting < length (while_due n (known_to old n who)).waiting
less_here old new n who peer o u =
    let known : known_to new n who ≡ peer = ap (λ (x : Option Peer). unwrap_or x no_peer) (u.view n who (omega arith) ∙ ap (λ b. cond b (while_listed n peer) (peer_in old n who)) (same_ip6-self who) ∙ o.stays) in
    let zero : length (while_due n (known_to new n who)).waiting ≡ 0 = ap (λ (x : Peer). length (while_due n x).waiting) known ∙ none_waiting (while_due n peer).waiting o.over in
    let some : 0 < length (while_due n (known_to old n who)).waiting = subst (λ (q : Peer). 0 < length q.waiting) (sym (due_now n (known_to old n who) o.due)) (some_waiting (known_to old n who).waiting o.waits) in
    omega (arith, zero, some)

less_among : (old new : Table) (n : ℕ) (who : Ip6) (peer : Peer) → IsPutOff old n who peer → Updates old new n who peer
    → waiting_among (λ p. while_due n (known_to new n p)) (listed_in old n) < waiting_among (λ p. while_due n (known_to old n p)) (listed_in old n)
unfolding waiting_among
less_among old new n who peer o u =
    less_of (λ p. length (while_due n (known_to new n p)).waiting) (λ p. length (while_due n (known_to old n p)).waiting) who (listed_in old n)
    (no_more old new n who peer o u) (less_here old new n who peer o u) (members old n who ∙ o.listed)

pub less_overdue : LessOverdue
unfolding overdue_in
less_overdue old new n who peer o u =
    let f : Ip6 → Peer = λ p. while_due n (known_to new n p) in
    let same : waiting_among f (listed_in new n) ≡ waiting_among f (listed_in old n) = same_waiting f (listed_in new n) (listed_in old n) (members_once new n) (members_once old n) (same_listed old new n who peer o u) in
    let less : waiting_among f (listed_in old n) < waiting_among (λ p. while_due n (known_to old n p)) (listed_in old n) = less_among old new n who peer o u in
    omega (arith, same, less)
