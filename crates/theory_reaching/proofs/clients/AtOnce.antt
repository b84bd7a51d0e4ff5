-- A packet for a client that is fresh, or has the cone bit, goes at once to where this one's address says.
use Rattle.theory_reaching.proofs.Words.{Bool, Ep, FRESH_MS, Ip6, IsHere, IsJournal, Journal, List, Meets, None, Option, Settings, Some, Words, [], and_parts, ap, client_out, embedded, false, false≢true, fields_in, goes_at_once, has_cone, is_big, is_bubble, is_fresh, is_packet, is_some, is_teredo, is_within, known, mentions, out, refl, send, sent_there, true, trusted_is_embedded, ℕ, ◌||◌, ◌∙◌, ◌∷◌, ◌≡◌}

-- where a fresh client is trusted
pub fresh_is_there : (s : Settings) (j : Journal) (n : ℕ) (p : Ip6) → IsJournal s j → is_teredo p ≡ true
    → is_fresh n (known (mentions j.entries) n p) ≡ true → (known (mentions j.entries) n p).trusted ≡ Some (embedded p)
unfolding is_fresh
fresh_is_there s j n p is teredo fresh =
    by (known (mentions j.entries) n p).trusted refl (and_parts (is_some (known (mentions j.entries) n p).trusted)
    (is_within FRESH_MS n (known (mentions j.entries) n p).heard) fresh).0 where
      by : (o : Option Ep) → (known (mentions j.entries) n p).trusted ≡ o → is_some o ≡ true → (known (mentions j.entries) n p).trusted ≡ Some (embedded p)
      by None is_it h = absurd (false≢true h)
      by (Some at) is_it h = is_it ∙ ap (λ (z : Ep). Some z) (trusted_is_embedded s j n p at is teredo is_it)

-- x is a packet from this client to another one
module _ (s : Settings) (j : Journal) (n : ℕ) (x : List ℕ) (is_one : is_packet x ≡ true) (meets : Meets s (fields_in x).src (fields_in x).dst)
    (here : IsHere s j (fields_in x).src) (small : is_big (fields_in x) ≡ false) (plain : is_bubble (fields_in x) ≡ false) where
  abbrev to : Ip6
  to = (fields_in x).dst

  pub at_once : IsJournal s j → (is_fresh n (known (mentions j.entries) n to) || has_cone to) ≡ true → (w : Words)
      → (client_out s j n x w).step.sends ≡ send (embedded to) x ∷ []
  at_once is quick w = by (is_fresh n (known (mentions j.entries) n to)) refl quick where
    by : (b : Bool) → is_fresh n (known (mentions j.entries) n to) ≡ b → (b || has_cone to) ≡ true
        → (client_out s j n x w).step.sends ≡ send (embedded to) x ∷ []
    by true fresh either = sent_there s j n x is_one (out (record { s = s; j = j; n = n; x = x; is_one = is_one; meets = meets; here = here; small = small; plain = plain })) fresh
        (fresh_is_there s j n to is meets.teredo fresh) w
    by false stale cone = (goes_at_once (record { s = s; j = j; n = n; x = x; is_one = is_one; meets = meets; here = here; small = small; plain = plain }) stale cone w).sends
