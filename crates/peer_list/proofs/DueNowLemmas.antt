-- Who is due by now, and what is left once that is done.
use Rattle.peer_list.proofs.Words.{AreWhole, Bool, Entries, Equal, FirstLasts, Greater, IfSome, Ip6, IsFirstDue, IsFirstOf, IsKeptDue, IsOverdue, LISTED_MS, Less, Listing, Millis, None, Option, Peer, Some, TRY_GAP_MS, Table, Updates, ap, arith, cond, due_and_who, due_moment, due_of, emptied, false, false≢true, first_due_in, is_lt, is_none, is_some, is_within, known_to, le_refl, listing_at, listings_of, lt-leb, ltb-false, ltb-true, max, nat_cmp, nat_eq, nat_le, nat_lt, no_peer, option_map, overdue_in, refl, subst, sym, table, tried_at, true, unwrap_or, while_due, while_listed, ℕ, ◌+◌, ◌<◌, ◌∙◌, ◌≡◌, ◌≤◌}
use Rattle.peer_list.proofs.TableLemmas.{touched_is_listed, found_is_listed}
use Rattle.peer_list.proofs.ChangeLemmas.{found_at}
use Rattle.peer_list.proofs.OverdueLemmas.{moment_of_first, nothing_overdue, first_overdue, less_overdue}

-- WHEN

first_due_by : (t : Table) (n : ℕ) (o : Option Listing) (d : Option Millis) → first_due_in t n ≡ o
    → option_map (λ (m : Millis). m.0) d ≡ option_map due_moment o → IfSome d (λ (m : Millis). 0 < overdue_in t (max n m.0)) → IsFirstDue (overdue_in t) n d
first_due_by t n None None f is lasts = λ m le. nothing_overdue t n m le f
first_due_by t n None (Some at) f is lasts = absurd (false≢true (sym (ap is_some is)))
first_due_by t n (Some l) None f is lasts = absurd (false≢true (ap is_some is))
first_due_by t n (Some l) (Some at) f is lasts =
    let first = first_overdue t n l f in
    let same : at.0 ≡ due_of l.peer = ap (λ (o : Option ℕ). unwrap_or o at.0) is in
    ((λ m le lt. first.before m le (omega (arith, same, lt))), lasts)

first_due_is : (t : Table) (n : ℕ) (d : Option Millis) → option_map (λ (m : Millis). m.0) d ≡ option_map due_moment (first_due_in t n) → IfSome d (λ (m : Millis). 0 < overdue_in t (max n m.0)) → IsFirstDue (overdue_in t) n d
first_due_is t n d is lasts = first_due_by t n (first_due_in t n) d refl is lasts

pub first_due_of : (t : Table) (n : ℕ) (due : Option (Millis × Ip6)) → due ≡ option_map due_and_who (first_due_in t n) → FirstLasts t n due → IsFirstDue (overdue_in t) n (option_map (λ (x : Millis × Ip6). x.0) due)
first_due_of t n None e lasts = first_due_is t n None (ap (option_map (λ (x : Millis × Ip6). x.0.0)) e ∙ moment_of_first (first_due_in t n)) tt
first_due_of t n (Some x) e lasts = first_due_is t n (Some x.0) (ap (option_map (λ (x : Millis × Ip6). x.0.0)) e ∙ moment_of_first (first_due_in t n)) lasts

-- WHO

none_by : (t : Table) (n : ℕ) (o : Option Listing) → first_due_in t n ≡ o → None ≡ option_map due_and_who o → o ≡ None
none_by t n None e k = refl
none_by t n (Some l) e k = absurd (false≢true (ap is_some k))

pub nobody_due : (t : Table) (n : ℕ) → None ≡ option_map due_and_who (first_due_in t n) → first_due_in t n ≡ None
nobody_due t n k = none_by t n (first_due_in t n) refl k

-- who is named, and when
pub record IsNamed (t : Table) (n : ℕ) (at : Millis) (who : Ip6) : Type 0 where
  pub first : first_due_in t n ≡ Some (listing_at t n who)
  pub at_moment : due_of (known_to t n who) ≡ at.0

named_by : (t : Table) (n : ℕ) (at : Millis) (who : Ip6) (o : Option Listing) → first_due_in t n ≡ o → option_map due_and_who o ≡ Some (at, who) → IsNamed t n at who
named_by t n at who None e k = absurd (false≢true (ap is_some k))
named_by t n at who (Some l) e k =
    let known = (first_overdue t n l e).peer in
    let same : l.who ≡ who = ap (λ (o : Option (Millis × Ip6)). (unwrap_or o (at, who)).1) k in
    let moment : due_of l.peer ≡ at.0 = ap (λ (o : Option (Millis × Ip6)). (unwrap_or o (at, who)).0.0) k in
    subst (λ (p : Ip6). IsNamed t n at p) same (record {
      first = e ∙ (λ i. Some (record { who = l.who; peer = known i }));
      at_moment = ap (λ (p : Peer). due_of p) (sym known) ∙ moment;
    })

pub named : (t : Table) (n : ℕ) (at : Millis) (who : Ip6) → Some (at, who) ≡ option_map due_and_who (first_due_in t n) → IsNamed t n at who
named t n at who k = named_by t n at who (first_due_in t n) refl (sym k)

-- where that is by now
pub is_overdue : (t : Table) (n : ℕ) (at : Millis) (who : Ip6) → IsNamed t n at who → at.0 ≤ n → IsOverdue t n who
is_overdue t n at who k l =
    let f = first_overdue t n (listing_at t n who) k.first in
    record { listed = f.listed; waits = f.waits; due = omega (arith, k.at_moment, l) }

-- and where it isn't
pub none_overdue : (t : Table) (n : ℕ) (at : Millis) (who : Ip6) → IsNamed t n at who → n < at.0 → overdue_in t n ≡ 0
none_overdue t n at who k l = (first_overdue t n (listing_at t n who) k.first).before n (le_refl n) (omega (arith, k.at_moment, l))

-- a moment that another isn't before
pub not_before : (a b : ℕ) → is_lt (nat_cmp a b) ≡ false → b ≤ a
not_before a b h = by_test (nat_lt a b) refl where
  by_test : (t : Bool) → nat_lt a b ≡ t → b ≤ a
  by_test true e = absurd (false≢true (sym h ∙ ap (λ (t : Bool). is_lt (cond t Less (cond (nat_eq a b) Equal Greater))) e))
  by_test false e = ltb-false a b e

greater : (s : Bool) → is_lt (cond s Equal Greater) ≡ false
greater true = refl
greater false = refl

pub before : (a b : ℕ) → is_lt (nat_cmp a b) ≡ true → a < b
before a b h = by_test (nat_lt a b) refl where
  by_test : (t : Bool) → nat_lt a b ≡ t → a < b
  by_test true e = ltb-true a b e
  by_test false e = absurd (false≢true (sym (ap (λ (t : Bool). is_lt (cond t Less (cond (nat_eq a b) Equal Greater))) e ∙ greater (nat_eq a b)) ∙ h))

-- LESS IS DUE

none_waits : (b : Bool) (p : Peer) → is_none (cond b (emptied p) no_peer).waiting ≡ true
none_waits true p = refl
none_waits false p = refl

emptied_stays : (n : ℕ) (p : Peer) → while_listed n p ≡ Some p → while_listed n (emptied p) ≡ Some (emptied p)
emptied_stays n p h = by_test (is_within LISTED_MS n p.touched) h where
  by_test : (b : Bool) → cond b (Some p) None ≡ Some p → cond b (Some (emptied p)) None ≡ Some (emptied p)
  by_test true k = refl
  by_test false k = absurd (false≢true (ap is_some k))

pub less_given_up : (old new : Table) (n : ℕ) (who : Ip6) → Updates old new n who (emptied (known_to old n who)) → IsOverdue old n who → overdue_in new n < overdue_in old n
less_given_up old new n who u d =
    let known = known_to old n who in
    less_overdue old new n who (emptied known) (record { listed = d.listed; waits = d.waits; due = d.due; stays = emptied_stays n known (found_is_listed old n who d.listed); over = none_waits (nat_le (due_of (emptied known)) n) known }) u

-- the next try is 2,000 ms away
later_try : (n : ℕ) (test : Option ℕ) (p : Peer) → due_of (tried_at n test p) ≡ n + TRY_GAP_MS
unfolding due_of
later_try n test p = refl

tried_over : (n : ℕ) (test : Option ℕ) (p : Peer) → is_none (while_due n (tried_at n test p)).waiting ≡ true
tried_over n test p =
    let later : nat_le (due_of (tried_at n test p)) n ≡ false = ap (λ (m : ℕ). nat_le m n) (later_try n test p) ∙ lt-leb (n + TRY_GAP_MS) n (omega arith) in
    ap (λ (b : Bool). is_none (cond b (tried_at n test p) no_peer).waiting) later

pub less_tried : (old new : Table) (n : ℕ) (who : Ip6) (test : Option ℕ) → Updates old new n who (tried_at n test (known_to old n who)) → IsOverdue old n who → overdue_in new n < overdue_in old n
less_tried old new n who test u d =
    let known = known_to old n who in
    less_overdue old new n who (tried_at n test known) (record { listed = d.listed; waits = d.waits; due = d.due; stays = touched_is_listed n (tried_at n test known) refl; over = tried_over n test known }) u

-- WHAT MAY BE DUE

pub kept_due : (e : Entries) (n m : ℕ) (x : Millis × Ip6) → AreWhole e → IsFirstOf e x → x.0.0 < m → IsKeptDue (table n (listings_of e)) m
kept_due e n m x w f l =
    let same : due_of f.listing.peer ≡ x.0.0 = ap (λ (y : Millis × Ip6). y.0.0) f.is in
    record {
      listing = f.listing;
      kept = found_at e f.listing.who f.key f.listing w.names (w.names.named f.key f.listing f.at) f.at;
      waits = f.waits;
      before = omega (arith, same, l);
    }
