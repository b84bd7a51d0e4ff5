-- What waits after one further entry, at its moment: less by what it releases, more by what it queues.
use Rattle.theory_storms.proofs.Words.{Bool, Ip6, LISTED_MS, List, Mention, None, Option, Peer, Some, [], all_that_pass, ap, arith, cond, false, false≢true, fewer_pass, filter, flat_map, inl, inr, is_about, is_listed, is_peer, is_younger, known, list_any, listed, listed_are, no_peer, not, not-true, of_a_touch, of_another, of_no_touch, option_map, option_to_list, peer_at, peer_list_unlisted, refl, same_ip6, same_ip6-self, same_ip6-true, sum_by, sum_by-append, sum_by-cons, sym, touched, true, unwrap_or, waiting_packets, with_peer, ℕ, ◌++◌, ◌+◌, ◌||◌, ◌∙◌, ◌∷◌, ◌≡◌, ◌≤◌, ◌⊎◌}
use Rattle.peer_list.specs.Laws.{after}
use Rattle.theory_storms.proofs.Sums.{all_under}

-- SUMS OVER ADDRESSES

abbrev apart_from : Ip6 → Ip6 → Bool
apart_from q p = not (same_ip6 q p)

under : (f g : Ip6 → ℕ) (test : Ip6 → Bool) (ps : List Ip6) → ((p : Ip6) → test p ≡ true → f p ≤ g p) → sum_by f (filter test ps) ≤ sum_by g (filter test ps)
under f g test [] h = omega arith
under f g test (p ∷ ps) h = by (test p) refl (under f g test ps h) where
  by : (b : Bool) → test p ≡ b → sum_by f (filter test ps) ≤ sum_by g (filter test ps)
      → sum_by f (cond b (p ∷ filter test ps) (filter test ps)) ≤ sum_by g (cond b (p ∷ filter test ps) (filter test ps))
  by true e rest =
      let one = h p e in
      let a = sum_by-cons f p (filter test ps) in
      let b = sum_by-cons g p (filter test ps) in
      omega (arith, one, rest, a, b)
  by false e rest = rest

-- one address that is there, and the others
one_out : (f : Ip6 → ℕ) (q : Ip6) (ps : List Ip6) → list_any (same_ip6 q) ps ≡ true → f q + sum_by f (filter (apart_from q) ps) ≤ sum_by f ps
one_out f q [] h = absurd (false≢true h)
one_out f q (p ∷ ps) h = by (same_ip6 q p) refl h (one_out f q ps) (sum_by-cons f p ps) where
  by : (b : Bool) → same_ip6 q p ≡ b → (b || list_any (same_ip6 q) ps) ≡ true
      → (list_any (same_ip6 q) ps ≡ true → f q + sum_by f (filter (apart_from q) ps) ≤ sum_by f ps)
      → sum_by f (p ∷ ps) ≡ f p + sum_by f ps → f q + sum_by f (cond (not b) (p ∷ filter (apart_from q) ps) (filter (apart_from q) ps)) ≤ sum_by f (p ∷ ps)
  by true e there ih whole =
      let same : f q ≡ f p = ap f (same_ip6-true q p e) in
      let less = fewer_pass f (apart_from q) ps in
      omega (arith, same, less, whole)
  by false e there ih whole =
      let rest = ih there in
      let a = sum_by-cons f p (filter (apart_from q) ps) in
      omega (arith, rest, whole, a)

any_kept : (t test : Ip6 → Bool) (ps : List Ip6) → list_any t (filter test ps) ≡ true → list_any t ps ≡ true
any_kept t test [] h = h
any_kept t test (p ∷ ps) h = by (test p) (t p) refl (any_kept t test ps) h where
  by : (b c : Bool) → t p ≡ c → (list_any t (filter test ps) ≡ true → list_any t ps ≡ true)
      → list_any t (cond b (p ∷ filter test ps) (filter test ps)) ≡ true → (c || list_any t ps) ≡ true
  by b true e ih g = refl
  by true false e ih g = ih (ap (λ (x : Bool). x || list_any t (filter test ps)) (sym e) ∙ g)
  by false false e ih g = ih g

other_way : (p q : Ip6) → same_ip6 q p ≡ false → same_ip6 p q ≡ false
other_way p q h = by (same_ip6 p q) refl where
  by : (b : Bool) → same_ip6 p q ≡ b → b ≡ false
  by false e = refl
  by true e = absurd (false≢true (sym h ∙ ap (same_ip6 q) (same_ip6-true p q e) ∙ same_ip6-self q))

-- WHAT WAITS FOR ONE, AND FOR ALL THAT WERE EVER TOUCHED

module _ (w : List ℕ → ℕ) where
  abbrev pub waits_for : List Mention → ℕ → Ip6 → ℕ
  waits_for j m p = sum_by w (known j m p).waiting

  abbrev pub waits_in : List Mention → ℕ → ℕ
  waits_in j m = sum_by (waits_for j m) (touched j)

  flat_each : (g : Ip6 → List (List ℕ)) (ps : List Ip6) → sum_by w (flat_map g ps) ≡ sum_by (λ (p : Ip6). sum_by w (g p)) ps
  flat_each g [] = refl
  flat_each g (p ∷ ps) = sum_by-append w (g p) (flat_map g ps) ∙ ap (λ (n : ℕ). sum_by w (g p) + n) (flat_each g ps)
      ∙ sym (sum_by-cons (λ (q : Ip6). sum_by w (g q)) p ps)

  for_none : (j : List Mention) (m : ℕ) (p : Ip6) → is_listed p m j ≡ false → waits_for j m p ≡ 0
  for_none j m p h = ap (λ (x : Peer). sum_by w x.waiting) (peer_list_unlisted j m p h)

  -- those that aren't listed don't count
  pub waiting_is : (j : List Mention) (m : ℕ) → sum_by w (waiting_packets j m) ≡ waits_in j m
  unfolding listed
  waiting_is j m = flat_each (λ (p : Ip6). (known j m p).waiting) (filter (λ (p : Ip6). is_listed p m j) (touched j))
      ∙ all_that_pass (waits_for j m) (λ (p : Ip6). is_listed p m j) (touched j) (for_none j m)

  there_or_nothing : (j : List Mention) (m : ℕ) (q : Ip6) → (list_any (same_ip6 q) (touched j) ≡ true) ⊎ (waits_for j m q ≡ 0)
  unfolding listed
  there_or_nothing j m q = by (is_listed q m j) refl where
    by : (b : Bool) → is_listed q m j ≡ b → (list_any (same_ip6 q) (touched j) ≡ true) ⊎ (waits_for j m q ≡ 0)
    by true e = inl (any_kept (same_ip6 q) (λ (p : Ip6). is_listed p m j) (touched j) (listed_are j m q ∙ e))
    by false e = inr (for_none j m q e)

  same_for : (e : Mention) (j : List Mention) (m : ℕ) (p : Ip6) → is_about p e ≡ false → waits_for (e ∷ j) m p ≡ waits_for j m p
  same_for e j m p h = ap (λ (o : Option Peer). sum_by w (unwrap_or o no_peer).waiting) (of_another e j m p h)

  -- ONE FURTHER ENTRY

  abbrev pub freed : (hears : Bool) → ℕ → ℕ
  freed true n = n
  freed false n = 0

  abbrev pub added : Option (List ℕ) → ℕ
  added None = 0
  added (Some x) = w x

  added_is : (o : Option (List ℕ)) → sum_by w (option_to_list o) ≡ added o
  added_is None = refl
  added_is (Some x) = let one = sum_by-cons w x [] in omega (arith, one)

  -- what waits for the peer of one that touches it
  after_touch : (e : Mention) (j : List Mention) (q : Ip6) → is_about q e ≡ true → e.bearing.touches ≡ true
      → waits_for (e ∷ j) e.moment q + freed e.bearing.hears (waits_for j e.moment q) ≤ waits_for j e.moment q + added e.bearing.queues
  after_touch e j q about touches =
      let is = ap (λ (o : Option Peer). sum_by w (unwrap_or o no_peer).waiting) (of_a_touch e j e.moment q about touches) in
      by (is_younger LISTED_MS e.moment e.moment) e.bearing.hears e.bearing.gives_up is
    where
      by : (young hears gives_up : Bool)
          → waits_for (e ∷ j) e.moment q ≡ sum_by w (unwrap_or
          (cond young (Some (record (after e (known j e.moment q)) {
            waiting = cond (hears || gives_up) []
                ((known j e.moment q).waiting ++ option_to_list e.bearing.queues);
          })) None) no_peer).waiting
          → waits_for (e ∷ j) e.moment q + freed hears (waits_for j e.moment q) ≤ waits_for j e.moment q + added e.bearing.queues
      by false true gives_up is = omega (arith, is)
      by false false gives_up is = omega (arith, is)
      by true true gives_up is = omega (arith, is)
      by true false true is = omega (arith, is)
      by true false false is =
          let both = sum_by-append w (known j e.moment q).waiting (option_to_list e.bearing.queues) in
          let more = added_is e.bearing.queues in
          omega (arith, is, both, more)

  -- of all
  pub shifts : (e : Mention) (j : List Mention) (q : Ip6) → e.peer ≡ Some q → e.bearing.touches ≡ true
      → waits_in (e ∷ j) e.moment + freed e.bearing.hears (waits_for j e.moment q) ≤ waits_in j e.moment + added e.bearing.queues
  unfolding touched
  shifts e j q peer touches =
      let m : ℕ = e.moment in
      let others : List Ip6 = filter (apart_from q) (touched j) in
      let about : is_about q e ≡ true = ap (is_peer q) peer ∙ same_ip6-self q in
      let list_is : touched (e ∷ j) ≡ q ∷ others = ap (λ (o : Option Ip6). with_peer o (touched j)) (ap (λ (b : Bool). cond b e.peer None) touches ∙ peer) in
      let whole = ap (sum_by (waits_for (e ∷ j) m)) list_is ∙ sum_by-cons (waits_for (e ∷ j) m) q others in
      let rest = under (waits_for (e ∷ j) m) (waits_for j m) (apart_from q) (touched j)
      (λ p h. let same = same_for e j m p (ap (is_peer p) peer ∙ other_way p q (not-true (same_ip6 q p) h)) in omega (arith, same)) in
      let own = after_touch e j q about touches in
      ends (waits_for (e ∷ j) m q) (sum_by (waits_for (e ∷ j) m) others) (sum_by (waits_for j m) others) (freed e.bearing.hears (waits_for j m q))
      (added e.bearing.queues) whole rest own (split m others refl (there_or_nothing j m q))
    where
      split : (m : ℕ) (others : List Ip6) → others ≡ filter (apart_from q) (touched j) → (list_any (same_ip6 q) (touched j) ≡ true) ⊎ (waits_for j m q ≡ 0)
          → waits_for j m q + sum_by (waits_for j m) others ≤ sum_by (waits_for j m) (touched j)
      split m others is (inl there) = let one = one_out (waits_for j m) q (touched j) there in let same = ap (sum_by (waits_for j m)) is in omega
          (arith, one, same)
      split m others is (inr none) = let less = fewer_pass (waits_for j m) (apart_from q) (touched j) in let same = ap (sum_by (waits_for j m)) is in omega
          (arith, less, same, none)

      ends : (own rest before gone more : ℕ) → waits_in (e ∷ j) e.moment ≡ own + rest → rest ≤ before → own + gone ≤ waits_for j e.moment q + more
          → waits_for j e.moment q + before ≤ waits_in j e.moment → waits_in (e ∷ j) e.moment + gone ≤ waits_in j e.moment + more
      ends own rest before gone more whole less one split = omega (arith, whole, less, one, split)

  -- where the peer isn't touched nothing is released and nothing queued
  pub stays : (e : Mention) (j : List Mention) (m : ℕ) → e.bearing.touches ≡ false → e.bearing.hears ≡ false → e.bearing.queues ≡ None
      → waits_in (e ∷ j) m ≤ waits_in j m
  unfolding touched
  stays e j m touches hears queues =
      let list_is : touched (e ∷ j) ≡ touched j = ap (λ (b : Bool). with_peer (cond b e.peer None) (touched j)) touches in
      let whole = ap (sum_by (waits_for (e ∷ j) m)) list_is in
      let less = all_under (waits_for (e ∷ j) m) (waits_for j m) (touched j) (λ p. one p (is_about p e) refl) in
      omega (arith, whole, less)
    where
      of_peer : (o : Option Peer) (gives_up : Bool) → sum_by w
          (unwrap_or (option_map (λ (x : Peer). record (after e x) {
            waiting = cond (e.bearing.hears || gives_up) []
                (x.waiting ++ option_to_list e.bearing.queues);
          }) o) no_peer).waiting ≤ sum_by w (unwrap_or o no_peer).waiting
      of_peer None gives_up = omega arith
      of_peer (Some x) true = let is = ap (λ (b : Bool). sum_by w (cond (b || true) [] (x.waiting ++ option_to_list e.bearing.queues))) hears in omega
          (arith, is)
      of_peer (Some x) false =
          let is = ap (λ (b : Bool). sum_by w (cond (b || false) [] (x.waiting ++ option_to_list e.bearing.queues))) hears in
          let none = ap (λ (o : Option (List ℕ)). sum_by w (x.waiting ++ option_to_list o)) queues in
          let both = sum_by-append w x.waiting [] in
          omega (arith, is, none, both)

      one : (p : Ip6) (b : Bool) → is_about p e ≡ b → waits_for (e ∷ j) m p ≤ waits_for j m p
      one p false about = let same = same_for e j m p about in omega (arith, same)
      one p true about =
          let is = ap (λ (o : Option Peer). sum_by w (unwrap_or o no_peer).waiting) (of_no_touch e j m p about touches) in
          let less = of_peer (peer_at j m p) e.bearing.gives_up in
          omega (arith, is, less)
