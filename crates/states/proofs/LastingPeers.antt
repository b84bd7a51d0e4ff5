-- What is told of a peer lasts while it is listed, and a try as long as one counts.
use Rattle.std.proofs.Common.{◌≡◌, ◌≤◌, ◌<◌, ◌-◌, ◌&&◌, ℕ, Bool, true, false, List, [], ◌∷◌, ◌++◌, cond, filter, find, map, reverse, Option, Some, None, refl, sym, ap, subst, arith, ◌∙◌}
use Rattle.std.proofs.lemmas.Bool.{lt-ltb, ltb-true}
use Rattle.std.proofs.lemmas.Grind.{reverse_onto}
use Rattle.std.proofs.lemmas.List.{append-nil}
use Rattle.std.proofs.lemmas.List.Elements.{filter-append}
use Rattle.std.specs.Prelude.{filter_map, nat_lt, option_map, unwrap_or}
use Rattle.std.specs.List.{AllByRecursion, cons_option}
use Rattle.td_base.specs.declared.ipv6.Ip6.{Ip6}
use Rattle.td_base.specs.Ip6.{cmp_ip6, cmp_ip6_total}
use Rattle.nat_kinds.proofs.ListLemmas.{all_passed, filter_wider}
use Rattle.peer_list.specs.declared.limits.TheConstants.{LISTED_MS}
use Rattle.peer_list.specs.Mentions.{Mention, is_about, is_touch_of}
use Rattle.peer_list.specs.Listed.{is_listed, is_recent_touch, is_younger, listed, stay, stay_with, touched}
use Rattle.peer_list.specs.Peers.{Peer, known, moment_of_latest, no_peer, peer_at, peer_of}
use Rattle.peer_list.specs.Judged.{is_within, young_tries}
use Rattle.states.specs.Facts.{PeerFact}
use Rattle.states.specs.Kept.{is_lower_ip6, listed_in_order, peer_fact, peer_fact_of}
use Rattle.states.specs.Orders.{in_order}
use Rattle.states.specs.Lasting.{PeerFactsLast, still_told, told_of_peers}
use Rattle.states.proofs.Sorted.{all_ordered, by_order, ordered_left}

-- THE LATEST TOUCH

abbrev touches : Mention → Bool
touches e = e.bearing.touches

-- a stay has the latest touch of its peer
stay_touch : (p : Ip6) (j : List Mention) → find touches (stay p j) ≡ find (is_touch_of p) j
unfolding stay
stay_touch p [] = refl
stay_touch p (e ∷ j) = by (is_about p e) e.bearing.touches (is_listed p e.moment j) refl (stay_touch p j) where
  by : (a t l : Bool) → e.bearing.touches ≡ t → find touches (stay p j) ≡ find (is_touch_of p) j
      → find touches (cond a (stay_with t l e (stay p j)) (stay p j)) ≡ cond (cond a t false) (Some e) (find (is_touch_of p) j)
  by false t l touch rest = rest
  by true true true touch rest = ap (λ (b : Bool). cond b (Some e) (find touches (stay p j))) touch
  by true true false touch rest = ap (λ (b : Bool). cond b (Some e) None) touch
  by true false l touch rest = ap (λ (b : Bool). cond b (Some e) (find touches (stay p j))) touch ∙ rest

recent_within : (n : ℕ) (o : Option Mention) → is_within LISTED_MS n (option_map (λ (e : Mention). e.moment) o) ≡ is_recent_touch LISTED_MS n o
recent_within n None = refl
recent_within n (Some e) = refl

-- so a peer is listed as long as the touch that is told is young
within_listed : (p : Ip6) (j : List Mention) (n : ℕ) → is_within LISTED_MS n (peer_of (stay p j)).touched ≡ is_listed p n j
unfolding is_listed
within_listed p j n = recent_within n (find touches (stay p j)) ∙ ap (is_recent_touch LISTED_MS n) (stay_touch p j)

-- LATER

younger_before : (m n k : ℕ) → m ≤ n → is_younger LISTED_MS n k ≡ true → is_younger LISTED_MS m k ≡ true
younger_before m n k le is = lt-ltb _ _ (let l : n - k < LISTED_MS = ltb-true _ _ is in omega (arith, l, le))

recent_before : (m n : ℕ) (o : Option Mention) → m ≤ n → is_recent_touch LISTED_MS n o ≡ true → is_recent_touch LISTED_MS m o ≡ true
recent_before m n None le is = is
recent_before m n (Some e) le is = younger_before m n e.moment le is

listed_before : (j : List Mention) (m n : ℕ) (p : Ip6) → m ≤ n → is_listed p n j ≡ true → is_listed p m j ≡ true
unfolding is_listed
listed_before j m n p le is = recent_before m n (find (is_touch_of p) j) le is

-- who is listed later
listed_later : (j : List Mention) (m n : ℕ) → m ≤ n → listed j n ≡ filter (λ (p : Ip6). is_listed p n j) (listed j m)
unfolding listed
listed_later j m n le = sym (filter_wider (λ (p : Ip6). is_listed p n j) (λ (p : Ip6). is_listed p m j) (λ p is. listed_before j m n p le is) (touched j))

all_listed : (j : List Mention) (m : ℕ) → AllByRecursion (λ (p : Ip6). is_listed p m j ≡ true) (listed j m)
unfolding listed
all_listed j m = all_passed (λ (p : Ip6). is_listed p m j) (touched j)

ordered_later : (j : List Mention) (m n : ℕ) → m ≤ n → listed_in_order j n ≡ filter (λ (p : Ip6). is_listed p n j) (listed_in_order j m)
ordered_later j m n le = ap (λ (ps : List Ip6). in_order is_lower_ip6 ps) (listed_later j m n le)
    ∙ ordered_left is_lower_ip6 (by_order cmp_ip6 cmp_ip6_total) (λ (p : Ip6). is_listed p n j) (listed j m)

-- WHAT IS TOLD OF ONE

known_listed : (j : List Mention) (n : ℕ) (p : Ip6) → is_listed p n j ≡ true → known j n p ≡ peer_of (stay p j)
unfolding peer_at
known_listed j n p is = ap (λ (b : Bool). unwrap_or (cond b (Some (peer_of (stay p j))) None) no_peer) is

turned : (q : ℕ → Bool) (xs : List ℕ) → filter q (reverse xs) ≡ reverse (filter q xs)
turned q [] = refl
turned q (x ∷ xs) = ap (filter q) (reverse_onto xs x []) ∙ filter-append q (reverse xs) (x ∷ []) ∙ by (q x) refl (turned q xs) where
  by : (b : Bool) → q x ≡ b → filter q (reverse xs) ≡ reverse (filter q xs) → filter q (reverse xs) ++ filter q (x ∷ []) ≡ reverse (cond b (x ∷ filter q xs) (filter q xs))
  by true is rest = ap (λ (ys : List ℕ). ys ++ filter q (x ∷ [])) rest ∙ ap (λ (t : Bool). reverse (filter q xs) ++ cond t (x ∷ []) []) is ∙ sym (reverse_onto (filter q xs) x [])
  by false is rest = ap (λ (ys : List ℕ). ys ++ filter q (x ∷ [])) rest ∙ ap (λ (t : Bool). reverse (filter q xs) ++ cond t (x ∷ []) []) is ∙ append-nil (reverse (filter q xs))

tries_later : (m n : ℕ) (peer : Peer) → m ≤ n → filter (is_younger LISTED_MS n) (reverse (young_tries m peer)) ≡ reverse (young_tries n peer)
tries_later m n peer le = turned (is_younger LISTED_MS n) (young_tries m peer)
    ∙ ap reverse (filter_wider (is_younger LISTED_MS n) (is_younger LISTED_MS m) (λ k is. younger_before m n k le is) peer.tries)

-- what is told later of a peer that was listed
one_later : (j : List Mention) (m n : ℕ) (p : Ip6) → m ≤ n → is_listed p m j ≡ true → (b : Bool) → is_listed p n j ≡ b
    → still_told n (peer_fact_of j m p) ≡ cond b (Some (peer_fact_of j n p)) None
one_later j m n p le was b is =
    ap (λ (x : Peer). still_told n (peer_fact m p x)) (known_listed j m p was)
    ∙ ap (λ (t : Bool). cond t (Some (record (peer_fact m p (peer_of (stay p j))) { tries = filter (is_younger LISTED_MS n) (reverse (young_tries m (peer_of (stay p j)))) })) None) (within_listed p j n ∙ is)
    ∙ by b is
  where
    by : (t : Bool) → is_listed p n j ≡ t
        → cond t (Some (record (peer_fact m p (peer_of (stay p j))) { tries = filter (is_younger LISTED_MS n) (reverse (young_tries m (peer_of (stay p j)))) })) None ≡ cond t (Some (peer_fact_of j n p)) None
    by false e = refl
    by true e = ap (λ (ts : List ℕ). Some (record (peer_fact m p (peer_of (stay p j))) { tries = ts })) (tries_later m n (peer_of (stay p j)) le)
        ∙ ap (λ (x : Peer). Some (peer_fact n p x)) (sym (known_listed j n p e))

-- AND OF ALL

all_later : (j : List Mention) (m n : ℕ) → m ≤ n → (ps : List Ip6) → AllByRecursion (λ (p : Ip6). is_listed p m j ≡ true) ps
    → map (peer_fact_of j n) (filter (λ (p : Ip6). is_listed p n j) ps) ≡ filter_map (still_told n) (map (peer_fact_of j m) ps)
all_later j m n le [] all = refl
all_later j m n le (p ∷ ps) all = by (is_listed p n j) refl (all_later j m n le ps all.1) where
  by : (b : Bool) → is_listed p n j ≡ b → map (peer_fact_of j n) (filter (λ (q : Ip6). is_listed q n j) ps) ≡ filter_map (still_told n) (map (peer_fact_of j m) ps)
      → map (peer_fact_of j n) (cond b (p ∷ filter (λ (q : Ip6). is_listed q n j) ps) (filter (λ (q : Ip6). is_listed q n j) ps))
      ≡ cons_option (still_told n (peer_fact_of j m p)) (filter_map (still_told n) (map (peer_fact_of j m) ps))
  by true is rest = ap (λ (fs : List PeerFact). peer_fact_of j n p ∷ fs) rest
      ∙ sym (ap (λ (o : Option PeerFact). cons_option o (filter_map (still_told n) (map (peer_fact_of j m) ps))) (one_later j m n p le all.0 true is))
  by false is rest = rest
      ∙ sym (ap (λ (o : Option PeerFact). cons_option o (filter_map (still_told n) (map (peer_fact_of j m) ps))) (one_later j m n p le all.0 false is))

pub peer_facts_last : PeerFactsLast
peer_facts_last j m n le = ap (map (peer_fact_of j n)) (ordered_later j m n le)
    ∙ all_later j m n le (listed_in_order j m) (all_ordered is_lower_ip6 (by_order cmp_ip6 cmp_ip6_total) (λ (p : Ip6). is_listed p m j ≡ true) (listed j m) (all_listed j m))
