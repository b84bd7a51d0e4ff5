-- What the due moments of peers weigh: less once a peer that was due was tried, given up, or is listed no more.
use Rattle.legal.proofs.Words.{Bearing, Bool, Ip6, IsFirstBy, IsWaiting, LISTED_MS, List, Listing, Mention, None, Option, Peer, Some, [], after, ap, arith, cond, due_of, false, false≢true, fewer_pass, filter, first_due, first_is_earliest, first_waits, has, is_listed, is_none, is_younger, known, le_refl, less_of, listed, listed_are, no_bearing, no_peer, not, or_right, peer_at, peer_if, peer_list_lasts, peer_list_one_entry, peer_list_unlisted, peers_due, refl, same_ip6, same_ip6-self, same_ip6-true, subst, sum_by, sum_by-cons, sum_by-le-sum_by, sym, touched, true, unwrap_or, waits_until, with_peer, without, young_now, ℕ, ◌<◌, ◌||◌, ◌∙◌, ◌∷◌, ◌≡◌, ◌≤◌}
use Rattle.legal.proofs.Weights.{weights, weights_fade, weights_each, one_some, lighter_after}

-- SUMS OVER ADDRESSES

-- those that don't pass add nothing
pub all_that_pass : (w : Ip6 → ℕ) (test : Ip6 → Bool) (ps : List Ip6) → ((p : Ip6) → test p ≡ false → w p ≡ 0) → sum_by w (filter test ps) ≡ sum_by w ps
all_that_pass w test [] none = refl
all_that_pass w test (p ∷ ps) none = by (test p) refl (all_that_pass w test ps none) where
  by : (b : Bool) → test p ≡ b → sum_by w (filter test ps) ≡ sum_by w ps → sum_by w (cond b (p ∷ filter test ps) (filter test ps)) ≡ sum_by w (p ∷ ps)
  by true e rest = omega (arith, rest, sum_by-cons w p (filter test ps), sum_by-cons w p ps)
  by false e rest = let zero_here : w p ≡ 0 = none p e in omega (arith, rest, zero_here, sum_by-cons w p ps)

-- one of them in front, and the others behind it
moved : (w : Ip6 → ℕ) (p : Ip6) (ps : List Ip6) → has p ps ≡ true → sum_by w (p ∷ without p ps) ≤ sum_by w ps
moved w p [] h = absurd (false≢true h)
moved w p (q ∷ ps) h = by (same_ip6 p q) refl h (moved w p ps) where
  by : (b : Bool) → same_ip6 p q ≡ b → (b || has p ps) ≡ true → (has p ps ≡ true → sum_by w (p ∷ without p ps) ≤ sum_by w ps) → sum_by w (p ∷ cond (not b) (q ∷ without p ps) (without p ps)) ≤ sum_by w (q ∷ ps)
  by true is k before =
      let same : w p ≡ w q = ap w (same_ip6-true p q is) in
      let few : sum_by w (without p ps) ≤ sum_by w ps = fewer_pass w (λ r. not (same_ip6 p r)) ps in
      omega (arith, same, few, sum_by-cons w p (without p ps), sum_by-cons w q ps)
  by false is k before =
      let inner : sum_by w (p ∷ without p ps) ≤ sum_by w ps = before k in
      omega (arith, inner, sum_by-cons w p (without p ps), sum_by-cons w p (q ∷ without p ps), sum_by-cons w q (without p ps), sum_by-cons w q ps)

-- WHAT PEERS WEIGH

-- what one weighs at m, up to the end
abbrev pub peer_weight : (end m : ℕ) → Peer → ℕ
peer_weight end m peer = weights end m (waits_until peer)

-- what the listed ones weigh: whoever isn't listed weighs nothing
abbrev pub peers_weight : (end m : ℕ) → List Mention → ℕ
peers_weight end m j = sum_by (λ p. peer_weight end m (known j m p)) (touched j)

nothing_known : (end m : ℕ) (j : List Mention) (p : Ip6) → is_listed p m j ≡ false → peer_weight end m (known j m p) ≡ 0
nothing_known end m j p h = ap (λ (x : Peer). peer_weight end m x) (peer_list_unlisted j m p h)

pub peers_weigh : (end m : ℕ) (j : List Mention) → weights end m (peers_due j m) ≡ peers_weight end m j
unfolding listed
peers_weigh end m j =
    weights_each end m (λ (p : Ip6). waits_until (known j m p)) (filter (λ p. is_listed p m j) (touched j))
    ∙ all_that_pass (λ p. peer_weight end m (known j m p)) (λ p. is_listed p m j) (touched j) (nothing_known end m j)

-- TIME ALONE

-- a peer weighs no more later
peer_fades : (end m n : ℕ) (j : List Mention) (p : Ip6) → m ≤ n → peer_weight end n (known j n p) ≤ peer_weight end m (known j m p)
peer_fades end m n j p l = by (is_listed p n j) refl where
  by : (b : Bool) → is_listed p n j ≡ b → peer_weight end n (known j n p) ≤ peer_weight end m (known j m p)
  by true h =
      let same : known j n p ≡ known j m p = ap (λ (o : Option Peer). unwrap_or o no_peer) (peer_list_lasts j m n p l h) in
      subst (λ (x : Peer). peer_weight end n x ≤ peer_weight end m (known j m p)) (sym same) (weights_fade end m n (waits_until (known j m p)) l)
  by false h =
      let none : peer_weight end n (known j n p) ≡ 0 = nothing_known end n j p h in
      omega (arith, none)

pub peers_fade : (end m n : ℕ) (j : List Mention) → m ≤ n → peers_weight end n j ≤ peers_weight end m j
peers_fade end m n j l = sum_by-le-sum_by (λ p. peer_weight end n (known j n p)) (λ p. peer_weight end m (known j m p)) (touched j) (λ p. peer_fades end m n j p l)

-- NONE DUE ANY MORE

-- no listed peer is due at n
abbrev pub NoneDue : List Mention → ℕ → Type 0
NoneDue j n = (l : Listing) → first_due j n ≡ Some l → n < due_of l.peer

-- so one that was due is listed no more
was_due : (n : ℕ) (j : List Mention) (p : Ip6) → NoneDue j n → is_listed p n j ≡ true → is_none (known j n p).waiting ≡ false → due_of (known j n p) ≤ n → ⊥
was_due n j p none h w due = by (first_due j n) refl (first_is_earliest j n p h w) where
  by : (o : Option Listing) → first_due j n ≡ o → IsFirstBy (due_of (known j n p)) o → ⊥
  by None e before = before
  by (Some l) e before =
      let later : n < due_of l.peer = none l e in
      omega (arith, later, before, due)

one_waiting : (end m : ℕ) (peer : Peer) → is_none peer.waiting ≡ false → peer_weight end m peer ≡ weights end m (due_of peer ∷ [])
one_waiting end m peer w = ap (λ b. weights end m (cond b [] (due_of peer ∷ []))) w

passes_in : (test : Ip6 → Bool) (p : Ip6) (ps : List Ip6) → has p (filter test ps) ≡ true → has p ps ≡ true
passes_in test p [] h = h
passes_in test p (q ∷ ps) h = by (test q) h (passes_in test p ps) where
  by : (b : Bool) → has p (cond b (q ∷ filter test ps) (filter test ps)) ≡ true → (has p (filter test ps) ≡ true → has p ps ≡ true) → (same_ip6 p q || has p ps) ≡ true
  by true k rest = at (same_ip6 p q) k where
    at : (x : Bool) → (x || has p (filter test ps)) ≡ true → (x || has p ps) ≡ true
    at true g = refl
    at false g = rest g
  by false k rest = or_right (same_ip6 p q) (has p ps) (rest k)

was_touched : (j : List Mention) (n : ℕ) (p : Ip6) → is_listed p n j ≡ true → has p (touched j) ≡ true
unfolding listed
was_touched j n p h = passes_in (λ q. is_listed q n j) p (touched j) (listed_are j n p ∙ h)

-- where a peer was due, and none is any more, they weigh less
pub fall_lost : (end m n : ℕ) (j : List Mention) (l : Listing) → m ≤ n → n ≤ end → first_due j m ≡ Some l → due_of l.peer ≤ n → NoneDue j n → peers_weight end n j < peers_weight end m j
fall_lost end m n j l le within first due none =
    let found : IsWaiting j m l = first_waits j m l first in
    let waits : is_none (known j m l.who).waiting ≡ false = ap (λ (x : Peer). is_none x.waiting) (sym found.peer) ∙ found.waits in
    let past : due_of (known j m l.who) ≤ n = subst (λ (x : Peer). due_of x ≤ n) found.peer due in
    less_of (λ p. peer_weight end n (known j n p)) (λ p. peer_weight end m (known j m p)) l.who (touched j) (λ p. peer_fades end m n j p le)
    (here waits past (is_listed l.who n j) refl) (was_touched j m l.who found.listed)
  where
    here : is_none (known j m l.who).waiting ≡ false → due_of (known j m l.who) ≤ n → (b : Bool) → is_listed l.who n j ≡ b → peer_weight end n (known j n l.who) < peer_weight end m (known j m l.who)
    here waits past true h =
        let same : known j m l.who ≡ known j n l.who = sym (ap (λ (o : Option Peer). unwrap_or o no_peer) (peer_list_lasts j m n l.who le h)) in
        let waits_then : is_none (known j n l.who).waiting ≡ false = subst (λ (x : Peer). is_none x.waiting ≡ false) same waits in
        let past_then : due_of (known j n l.who) ≤ n = subst (λ (x : Peer). due_of x ≤ n) same past in
        absurd (was_due n j l.who none h waits_then past_then)
    here waits past false h =
        let nothing : peer_weight end n (known j n l.who) ≡ 0 = nothing_known end n j l.who h in
        let is : peer_weight end m (known j m l.who) ≡ weights end m (due_of (known j m l.who) ∷ []) = one_waiting end m (known j m l.who) waits in
        let some : 0 < weights end m (due_of (known j m l.who) ∷ []) = one_some end m n (due_of (known j m l.who)) past le within in
        omega (arith, nothing, is, some)

-- A FURTHER ENTRY

-- one that is about no peer
pub peers_still : (end n : ℕ) (b : Bearing) (j : List Mention) → peers_weight end n (record { moment = n; peer = None; bearing = b } ∷ j) ≤ peers_weight end n j
unfolding touched
peers_still end n b j = by b.touches where
  e : Mention
  e = record { moment = n; peer = None; bearing = b }

  same : (p : Ip6) → peer_weight end n (known (e ∷ j) n p) ≤ peer_weight end n (known j n p)
  same p =
      let is : peer_weight end n (known (e ∷ j) n p) ≡ peer_weight end n (known j n p) = ap (λ (o : Option Peer). peer_weight end n (unwrap_or o no_peer)) (peer_list_one_entry e j n p) in
      omega (arith, is)

  by : (t : Bool) → sum_by (λ p. peer_weight end n (known (e ∷ j) n p)) (with_peer (cond t None None) (touched j)) ≤ peers_weight end n j
  by true = sum_by-le-sum_by (λ p. peer_weight end n (known (e ∷ j) n p)) (λ p. peer_weight end n (known j n p)) (touched j) same
  by false = sum_by-le-sum_by (λ p. peer_weight end n (known (e ∷ j) n p)) (λ p. peer_weight end n (known j n p)) (touched j) same

-- a peer for whom packets wait, after an entry about it
after_entry : (t : Bool) (e : Mention) (o : Option Peer) → is_none (unwrap_or o no_peer).waiting ≡ false → unwrap_or (peer_if true t true e o o) no_peer ≡ after e (unwrap_or o no_peer)
after_entry t e None w = absurd (false≢true (sym w))
after_entry true e (Some x) w = refl
after_entry false e (Some x) w = refl

-- where the first that is due weighs less after an entry about it, they all do
pub fall_turn : (end n : ℕ) (b : Bearing) (j : List Mention) (l : Listing) → first_due j n ≡ Some l
    → peer_weight end n (after (record { moment = n; peer = Some l.who; bearing = b }) l.peer) < peer_weight end n l.peer
    → peers_weight end n (record { moment = n; peer = Some l.who; bearing = b } ∷ j) < peers_weight end n j
unfolding touched
fall_turn end n b j l first less =
    let found : IsWaiting j n l = first_waits j n l first in
    let waits : is_none (known j n l.who).waiting ≡ false = ap (λ (x : Peer). is_none x.waiting) (sym found.peer) ∙ found.waits in
    let there : has l.who (touched j) ≡ true = was_touched j n l.who found.listed in
    let all : sum_by new (touched j) < sum_by old (touched j) = less_of new old l.who (touched j) (no_more waits found.peer) (here waits found.peer) there in
    let front : sum_by new (with_peer (cond b.touches (Some l.who) None) (touched j)) ≤ sum_by new (touched j) = in_front there b.touches in
    omega (arith, all, front)
  where
    e : Mention
    e = record { moment = n; peer = Some l.who; bearing = b }

    new : Ip6 → ℕ
    new p = peer_weight end n (known (e ∷ j) n p)

    old : Ip6 → ℕ
    old p = peer_weight end n (known j n p)

    in_front : has l.who (touched j) ≡ true → (t : Bool) → sum_by new (with_peer (cond t (Some l.who) None) (touched j)) ≤ sum_by new (touched j)
    in_front there true = moved new l.who (touched j) there
    in_front there false = omega arith

    entry : (p : Ip6) → peer_at (e ∷ j) n p ≡ peer_if (same_ip6 p l.who) b.touches (is_younger LISTED_MS n n) e (peer_at j n p) (peer_at j n p)
    entry p = peer_list_one_entry e j n p

    turned : is_none (known j n l.who).waiting ≡ false → known (e ∷ j) n l.who ≡ after e (known j n l.who)
    turned waits =
        ap (λ (o : Option Peer). unwrap_or o no_peer) (entry l.who)
        ∙ ap (λ x. unwrap_or (peer_if x b.touches (is_younger LISTED_MS n n) e (peer_at j n l.who) (peer_at j n l.who)) no_peer) (same_ip6-self l.who)
        ∙ ap (λ x. unwrap_or (peer_if true b.touches x e (peer_at j n l.who) (peer_at j n l.who)) no_peer) (young_now n)
        ∙ after_entry b.touches e (peer_at j n l.who) waits

    here : is_none (known j n l.who).waiting ≡ false → l.peer ≡ known j n l.who → new l.who < old l.who
    here waits is =
        let then : new l.who ≡ peer_weight end n (after e l.peer) = ap (λ (x : Peer). peer_weight end n x) (turned waits ∙ ap (λ (x : Peer). after e x) (sym is)) in
        let before : old l.who ≡ peer_weight end n l.peer = ap (λ (x : Peer). peer_weight end n x) (sym is) in
        omega (arith, then, before, less)

    no_more : is_none (known j n l.who).waiting ≡ false → l.peer ≡ known j n l.who → (p : Ip6) → new p ≤ old p
    no_more waits found_peer p = by (same_ip6 p l.who) refl where
      by : (x : Bool) → same_ip6 p l.who ≡ x → new p ≤ old p
      by true same =
          let is : p ≡ l.who = same_ip6-true p l.who same in
          let at : new l.who < old l.who = here waits found_peer in
          subst (λ x. new x ≤ old x) (sym is) (omega (arith, at))
      by false other =
          let is : new p ≡ old p =
          ap (λ (o : Option Peer). peer_weight end n (unwrap_or o no_peer)) (entry p ∙ ap (λ x. peer_if x b.touches (is_younger LISTED_MS n n) e (peer_at j n p) (peer_at j n p)) other) in
          omega (arith, is)

-- WHAT A TRY DOES

-- a peer that was due weighs less once it is due later
pub put_off : (end n : ℕ) (old new : Peer) → is_none old.waiting ≡ false → due_of old ≤ n → n ≤ end → n < due_of new → peer_weight end n new < peer_weight end n old
put_off end n old new waits due within later =
    let is : peer_weight end n old ≡ weights end n (due_of old ∷ []) = one_waiting end n old waits in
    let less : peer_weight end n new < weights end n (due_of old ∷ []) = by (is_none new.waiting) in
    omega (arith, is, less)
  where
    by : (b : Bool) → weights end n (cond b [] (due_of new ∷ [])) < weights end n (due_of old ∷ [])
    by true = lighter_after end n n (due_of old) None due (le_refl n) within tt
    by false = lighter_after end n n (due_of old) (Some (due_of new)) due (le_refl n) within later

-- or nothing waits for it
pub let_go : (end n : ℕ) (old new : Peer) → is_none old.waiting ≡ false → due_of old ≤ n → n ≤ end → new.waiting ≡ [] → peer_weight end n new < peer_weight end n old
let_go end n old new waits due within none =
    let is : peer_weight end n old ≡ weights end n (due_of old ∷ []) = one_waiting end n old waits in
    let nothing : peer_weight end n new ≡ 0 = ap (λ (xs : List (List ℕ)). weights end n (cond (is_none xs) [] (due_of new ∷ []))) none in
    let some : 0 < weights end n (due_of old ∷ []) = one_some end n n (due_of old) due (le_refl n) within in
    omega (arith, is, nothing, some)

-- a try puts it off
pub tried_later : (n : ℕ) (who : Option Ip6) (drawn : Option ℕ) (peer : Peer)
    → n < due_of (after (record { moment = n; peer = who; bearing = record no_bearing { touches = true; tries = true; nonce = drawn } }) peer)
unfolding due_of
tried_later n who drawn peer = omega arith
