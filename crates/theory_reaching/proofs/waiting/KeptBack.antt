-- Packets that wait for a peer, at a client or a relay: whoever has some is barred for the peer, and an entry more leaves it so.
use Rattle.theory_reaching.proofs.Words.{Bool, Input, Ip6, LISTED_MS, List, Mention, None, Option, Peer, Some, TRY_GAP_MS, [], ap, arith, cond, due_of, false, false≢true, filter, inl, inr, is_about, is_barred, is_listed, is_none, is_peer, is_spent, is_younger, known, list_any, nat_tests, no_peer, one_entry, option_to_list, or_left, or_right, peer_at, peer_if, refl, same_ip6-true, subst, sym, ticked, tries_after, true, unlisted_is_unknown, unspecified, unwrap_or, ℕ, ◌++◌, ◌+◌, ◌<◌, ◌||◌, ◌∙◌, ◌∷◌, ◌≡◌, ◌⊎◌}
use Rattle.peer_list.specs.Laws.{after}
use Rattle.std.proofs.lemmas.List.{append-nil}
use Rattle.theory_reaching.proofs.entries.KnownAfter.{keeps, barred_still, barred_by, by_tries, just_tried}

-- A PEER

-- who has packets waiting is barred
abbrev pub KeptBack : ℕ → Peer → Type 0
KeptBack n q = is_none q.waiting ≡ false → is_barred n q ≡ true

young_enough : (n m : ℕ) → n < m + 2000 → (is_younger LISTED_MS n m ≡ true) × (is_younger TRY_GAP_MS n m ≡ true)
young_enough n m early = (grind (arith, nat_tests, early), grind (arith, nat_tests, early))

-- one whose next try isn't due yet is barred
pub not_due : (n : ℕ) (q : Peer) → n < due_of q → is_barred n q ≡ true
unfolding due_of is_barred
not_due n q early = by q.tries early where
  some_young : (m : ℕ) (ms : List ℕ) → (is_younger LISTED_MS n m ≡ true) × (is_younger TRY_GAP_MS n m ≡ true)
      → list_any (is_younger TRY_GAP_MS n) (filter (is_younger LISTED_MS n) (m ∷ ms)) ≡ true
  some_young m ms young = ap (λ (b : Bool). list_any (is_younger TRY_GAP_MS n)
      (cond b (m ∷ filter (is_younger LISTED_MS n) ms) (filter (is_younger LISTED_MS n) ms))) young.0
      ∙ or_left (is_younger TRY_GAP_MS n m) (list_any (is_younger TRY_GAP_MS n) (filter (is_younger LISTED_MS n) ms)) young.1

  by : (ms : List ℕ) → n < due_of (record q { tries = ms })
      → (is_spent n q || list_any (is_younger TRY_GAP_MS n) (filter (is_younger LISTED_MS n) ms)) ≡ true
  by [] e = let none : n < 0 = e in absurd (omega (arith, none))
  by (m ∷ ms) e = or_right (is_spent n q) (list_any (is_younger TRY_GAP_MS n) (filter (is_younger LISTED_MS n) (m ∷ ms)))
      (some_young m ms (young_enough n m e))

-- nothing waits for one that may be tried
pub none_kept : (n : ℕ) (q : Peer) → KeptBack n q → is_barred n q ≡ false → q.waiting ≡ []
none_kept n q kept may = by q.waiting refl where
  by : (ws : List (List ℕ)) → q.waiting ≡ ws → ws ≡ []
  by [] e = refl
  by (w ∷ ws) e = absurd (false≢true (sym may ∙ kept (ap (λ (us : List (List ℕ)). is_none us) e)))

-- ONE MORE ENTRY

module _ (e : Mention) (j : List Mention) (n : ℕ) (p : Ip6) (at : e.moment ≡ n) where
  -- that queues nothing, or is a try
  kept_after : (e.bearing.queues ≡ None) ⊎ (e.bearing.tries ≡ true) → KeptBack n (known j n p) → KeptBack n (known (e ∷ j) n p)
  kept_after mild = keeps e j n p at (KeptBack n) (λ q h w. by_tries n (after e q)
      ∙ by e.bearing.hears e.bearing.gives_up e.bearing.tries e.bearing.queues mild q h w) where
        by : (hears gives tries : Bool) (queues : Option (List ℕ)) → (queues ≡ None) ⊎ (tries ≡ true) → (q : Peer) → KeptBack n q
            → is_none (cond (hears || gives) [] (q.waiting ++ option_to_list queues)) ≡ false
            → barred_by n (tries_after hears tries e.moment q.tries) ≡ true
        by true gives tries queues m q h w = absurd (false≢true (sym w))
        by false true tries queues m q h w = absurd (false≢true (sym w))
        by false false true queues m q h w = subst (λ (t : ℕ). barred_by n (tries_after false true t q.tries) ≡ true) (sym at) (just_tried n q.tries)
        by false false false queues (inl none) q h w = sym (by_tries n q) ∙ h (sym (ap (λ (xs : List (List ℕ)). is_none xs)
            (ap (λ (o : Option (List ℕ)). q.waiting ++ option_to_list o) none ∙ append-nil q.waiting)) ∙ w)
        by false false false queues (inr tried) q h w = absurd (false≢true tried)

  -- or is about one for whom the relay is barred, and isn't heard
  kept_barred : (o : Option Ip6) → e.peer ≡ o → is_barred n (known j n (unwrap_or o unspecified)) ≡ true → e.bearing.hears ≡ false
      → KeptBack n (known j n p) → KeptBack n (known (e ∷ j) n p)
  kept_barred o about barred unheard before = by o about barred (is_peer p o) refl where
    elsewhere : is_about p e ≡ false → KeptBack n (known (e ∷ j) n p)
    elsewhere other = subst (λ (z : Option Peer). KeptBack n (unwrap_or z no_peer)) (sym (one_entry e j n p
        ∙ ap (λ (b : Bool). peer_if b e.bearing.touches (is_younger LISTED_MS n e.moment) e (peer_at j e.moment p) (peer_at j n p)) other)) before

    by : (z : Option Ip6) → e.peer ≡ z → is_barred n (known j n (unwrap_or z unspecified)) ≡ true → (b : Bool) → is_peer p z ≡ b
        → KeptBack n (known (e ∷ j) n p)
    by None about barred b is = elsewhere (ap (is_peer p) about)
    by (Some d) about barred false is = elsewhere (ap (is_peer p) about ∙ is)
    by (Some d) about barred true is = λ _. barred_still e j n p at unheard (ap (λ (z : Ip6). is_barred n (known j n z)) (same_ip6-true p d is) ∙ barred)

-- nothing waits for one of whom nothing is known
pub nobody_waits : (n : ℕ) (p : Ip6) → KeptBack n (known [] n p)
unfolding is_listed
nobody_waits n p w = absurd (false≢true (sym (sym (ap (λ (q : Peer). is_none q.waiting) (unlisted_is_unknown [] n p refl)) ∙ w)))

-- WHAT AN ENTRY MEANS FOR WHAT WAITS

-- it queues nothing, or is a try; or it is about one that is barred, and isn't heard
pub data Adds (j : List Mention) (n : ℕ) (e : Mention) : Type 0 where
  mild : e.moment ≡ n → (e.bearing.queues ≡ None) ⊎ (e.bearing.tries ≡ true) → Adds j n e
  back : e.moment ≡ n → (o : Option Ip6) → e.peer ≡ o → is_barred n (known j n (unwrap_or o unspecified)) ≡ true → e.bearing.hears ≡ false → Adds j n e

pub kept_by : (j : List Mention) (n : ℕ) (e : Mention) (p : Ip6) → Adds j n e → KeptBack n (known j n p) → KeptBack n (known (e ∷ j) n p)
kept_by j n e p (mild at m) = kept_after e j n p at m
kept_by j n e p (back at o about barred unheard) = kept_barred e j n p at o about barred unheard

abbrev pub is_ticked : Input → Bool
is_ticked ticked = true
is_ticked _ = false
