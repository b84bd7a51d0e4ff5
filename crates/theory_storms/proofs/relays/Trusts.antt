-- A relay's trust in a client lasts as long as time doesn't pass, whatever comes to the relay.
use Rattle.theory_storms.proofs.Words.{Bool, Ep, Ip6, List, Mention, None, Option, Peer, Some, ap, cond, false, false≢true, is_about, is_some, known, no_peer, of_a_touch, of_another, of_no_touch, option_map, option_or, peer_at, refl, subst, true, unwrap_or, young_now, ℕ, ◌∙◌, ◌∷◌, ◌≡◌}
use Rattle.peer_list.specs.Laws.{after}

abbrev pub trusted_as : Option Peer → Bool
trusted_as o = is_some (unwrap_or o no_peer).trusted

-- what is given, or was before
either : (a b : Option Ep) → is_some b ≡ true → is_some (option_or a b) ≡ true
either None b h = h
either (Some at) b h = refl

given : (a b : Option Ep) (at : Ep) → a ≡ Some at → is_some (option_or a b) ≡ true
given a b at e = ap (λ (o : Option Ep). is_some (option_or o b)) e

-- after an entry that doesn't touch its peer
stays : (e : Mention) (o : Option Peer) → trusted_as o ≡ true → trusted_as (option_map (after e) o) ≡ true
stays e None h = absurd (false≢true h)
stays e (Some p) h = either e.bearing.trusts p.trusted h

module _ (e : Mention) (j : List Mention) (client : Ip6) where
  -- after one that touches it
  touched : is_about client e ≡ true → e.bearing.touches ≡ true
      → trusted_as (peer_at (e ∷ j) e.moment client) ≡ is_some (option_or e.bearing.trusts (known j e.moment client).trusted)
  touched about touches =
      ap trusted_as (of_a_touch e j e.moment client about touches)
      ∙ ap (λ (b : Bool). trusted_as (cond b (Some (after e (known j e.moment client))) None)) (young_now e.moment)

  lasts_then : is_some (known j e.moment client).trusted ≡ true → is_some (known (e ∷ j) e.moment client).trusted ≡ true
  lasts_then h = by (is_about client e) refl (e.bearing.touches) refl where
    by : (about : Bool) → is_about client e ≡ about → (touches : Bool) → e.bearing.touches ≡ touches
        → trusted_as (peer_at (e ∷ j) e.moment client) ≡ true
    by false other touches t = ap trusted_as (of_another e j e.moment client other) ∙ h
    by true about true t = touched about t ∙ either e.bearing.trusts (known j e.moment client).trusted h
    by true about false t = ap trusted_as (of_no_touch e j e.moment client about t) ∙ stays e (peer_at j e.moment client) h

  -- trust lasts
  pub lasts : (m : ℕ) → e.moment ≡ m → is_some (known j m client).trusted ≡ true → is_some (known (e ∷ j) m client).trusted ≡ true
  lasts m moment = subst (λ (k : ℕ). is_some (known j k client).trusted ≡ true → is_some (known (e ∷ j) k client).trusted ≡ true) moment lasts_then

  -- and begins with an entry that gives it
  pub begins : {m : ℕ} {at : Ep} → e.moment ≡ m → is_about client e ≡ true → e.bearing.touches ≡ true → e.bearing.trusts ≡ Some at
      → is_some (known (e ∷ j) m client).trusted ≡ true
  begins {at} moment about touches trusts =
      subst (λ (k : ℕ). is_some (known (e ∷ j) k client).trusted ≡ true) moment
      (touched about touches ∙ given e.bearing.trusts (known j e.moment client).trusted at trusts)
