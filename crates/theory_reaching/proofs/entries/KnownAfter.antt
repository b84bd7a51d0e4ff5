-- What one more entry leaves of what is known of a peer, at the moment of the entry.
use Rattle.theory_reaching.proofs.Words.{Bool, Ep, FRESH_MS, Ip6, LISTED_MS, List, Mention, None, Option, Peer, Some, TRIES_MAX, TRY_GAP_MS, ap, arith, cond, false, false≢true, filter, is_about, is_barred, is_ep, is_fresh, is_some, is_spent, is_trusted_at, is_within, is_younger, known, list_any, nat_lt, nat_tests, no_peer, one_entry, option_or, or_left, or_right, peer_at, peer_if, refl, subst, sym, take, tries_after, true, unwrap_or, ℕ, ◌&&◌, ◌-◌, ◌∙◌, ◌∷◌, ◌≡◌}
use Rattle.peer_list.specs.Laws.{after}

-- its tries alone say whether a peer is barred
abbrev pub barred_by : ℕ → List ℕ → Bool
barred_by n ms = is_barred n (record no_peer { tries = ms })

pub by_tries : (n : ℕ) (q : Peer) → is_barred n q ≡ barred_by n q.tries
unfolding is_barred is_spent
by_tries n q = refl

now : (ms m : ℕ) → nat_lt 0 ms ≡ true → nat_lt (m - m) ms ≡ true
now ms m some = grind (arith, nat_tests, some)

-- after a try at the moment it is
pub just_tried : (n : ℕ) (ms : List ℕ) → barred_by n (take TRIES_MAX (n ∷ ms)) ≡ true
unfolding is_barred
just_tried n ms = or_right (is_spent n (record no_peer { tries = n ∷ take 3 ms }))
    (list_any (is_younger TRY_GAP_MS n) (filter (is_younger LISTED_MS n) (n ∷ take 3 ms)))
    (ap (λ (b : Bool). list_any (is_younger TRY_GAP_MS n) (cond b (n ∷ filter (is_younger LISTED_MS n) (take 3 ms))
    (filter (is_younger LISTED_MS n) (take 3 ms)))) (now LISTED_MS n refl)
    ∙ or_left (is_younger TRY_GAP_MS n n) (list_any (is_younger TRY_GAP_MS n) (filter (is_younger LISTED_MS n) (take 3 ms))) (now TRY_GAP_MS n refl))

module _ (e : Mention) (j : List Mention) (n : ℕ) (p : Ip6) (at : e.moment ≡ n) where
  young : is_younger LISTED_MS n e.moment ≡ true
  young = subst (λ (m : ℕ). nat_lt (n - m) LISTED_MS ≡ true) (sym at) (now LISTED_MS n refl)

  -- what holds of a peer, and of it after the entry, holds on
  pub keeps : (F : Peer → Type 0) → ((q : Peer) → F q → F (after e q)) → F (known j n p) → F (known (e ∷ j) n p)
  keeps F more holds = subst (λ (o : Option Peer). F (unwrap_or o no_peer)) (sym (one_entry e j n p))
      (by (is_about p e) e.bearing.touches (is_younger LISTED_MS n e.moment) young (peer_at j n p) (peer_at j e.moment p)
      (ap (λ (m : ℕ). peer_at j m p) at) holds) where
        by : (about touches recent : Bool) → recent ≡ true → (here before : Option Peer) → before ≡ here → F (unwrap_or here no_peer)
            → F (unwrap_or (peer_if about touches recent e before here) no_peer)
        by false touches recent is here before same f = f
        by true false recent is None before same f = f
        by true false recent is (Some q) before same f = more q f
        by true true false is here before same f = absurd (false≢true is)
        by true true true is here before same f =
            more (unwrap_or before no_peer) (subst (λ (o : Option Peer). F (unwrap_or o no_peer)) (sym same) f)

  -- whom nobody trusts is trusted no more after an entry that says nothing of trust
  pub untrusted_still : e.bearing.trusts ≡ None → is_some (known j n p).trusted ≡ false → is_some (known (e ∷ j) n p).trusted ≡ false
  untrusted_still none = keeps (λ (q : Peer). is_some q.trusted ≡ false)
      (λ q h. ap (λ (o : Option Ep). is_some (option_or o q.trusted)) none ∙ h)

  -- nor is one trusted at an endpoint who wasn't
  pub mistrusted_still : (from : Ep) → e.bearing.trusts ≡ None → is_trusted_at from (known j n p) ≡ false → is_trusted_at from (known (e ∷ j) n p) ≡ false
  unfolding is_trusted_at
  mistrusted_still from none = keeps (λ (q : Peer). is_trusted_at from q ≡ false)
      (λ q h. ap (λ (o : Option Ep). is_ep from (option_or o q.trusted)) none ∙ h)

  -- of others the same is known
  pub others_known : is_about p e ≡ false → known (e ∷ j) n p ≡ known j n p
  others_known other = ap (λ (o : Option Peer). unwrap_or o no_peer) (one_entry e j n p
      ∙ ap (λ (b : Bool). peer_if b e.bearing.touches (is_younger LISTED_MS n e.moment) e (peer_at j e.moment p) (peer_at j n p)) other)

  -- who is barred is barred after an entry that isn't heard
  pub barred_still : e.bearing.hears ≡ false → is_barred n (known j n p) ≡ true → is_barred n (known (e ∷ j) n p) ≡ true
  barred_still unheard = keeps (λ (q : Peer). is_barred n q ≡ true)
      (λ q h. by_tries n (after e q) ∙ by e.bearing.hears e.bearing.tries unheard q.tries (sym (by_tries n q) ∙ h)) where
        by : (hears tries : Bool) → hears ≡ false → (ms : List ℕ) → barred_by n ms ≡ true → barred_by n (tries_after hears tries e.moment ms) ≡ true
        by true tries is ms barred = absurd (false≢true (sym is))
        by false false is ms barred = barred
        by false true is ms barred = subst (λ (m : ℕ). barred_by n (take TRIES_MAX (m ∷ ms)) ≡ true) (sym at) (just_tried n ms)

  -- and who is fresh is fresh after an entry that isn't heard and says nothing of trust
  pub fresh_still : e.bearing.trusts ≡ None → e.bearing.hears ≡ false → is_fresh n (known j n p) ≡ true → is_fresh n (known (e ∷ j) n p) ≡ true
  unfolding is_fresh
  fresh_still none unheard = keeps (λ (q : Peer). is_fresh n q ≡ true)
      (λ q h. ap (λ (o : Option Ep). is_some (option_or o q.trusted) && is_within FRESH_MS n (after e q).heard) none
      ∙ ap (λ (b : Bool). is_some q.trusted && is_within FRESH_MS n (cond b (Some e.moment) q.heard)) unheard ∙ h)
