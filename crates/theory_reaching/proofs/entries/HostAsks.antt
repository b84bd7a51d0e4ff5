-- What a client does with a packet of its host for a peer outside Teredo: nothing is sent, or the peer is listed from then on.
use Rattle.theory_reaching.proofs.Words.{Bool, Entry, Fate, Given, Ip6, Journal, List, Mention, None, PEERS_MAX, Settings, Some, Standing, Step, Words, [], ap, bearing_of, client_out, cond, destination_in, false, fate_of_transmission, fields_in, given_of, has_cone, has_room, has_room_for_both, inl, inr, is_packet, is_teredo, length, listed, mention, mentions, refl, same_ip6, standing_at, standing_of, stands_for, subst, sym, transmission_row, transmission_step, true, ℕ, ◌&&◌, ◌∙◌, ◌∷◌, ◌≡◌, ◌≤◌, ◌⊎◌}
use Rattle.client_rules.specs.Transmission as transmission
use Rattle.theory_reaching.proofs.entries.HostMentions.{host_mentions}
use Rattle.theory_reaching.proofs.entries.IdleFates.{of_transmission}
use Rattle.theory_reaching.proofs.entries.NoRoomLeft.{no_room_left}
use Rattle.theory_reaching.proofs.Tests.{never}

module _ (s : Settings) (a : Standing) (x : List ℕ) (w : Words) (g : Given) (plain : g.cone ≡ false) where
  abbrev IsSilentOr : Fate → Type 0
  IsSilentOr f = ((transmission_step s a x (fields_in x).dst w f).sends ≡ []) ⊎ ((e : Entry) → (bearing_of f e).touches ≡ true)

  -- whatever line holds
  silent_or : IsSilentOr (transmission_row g)
  silent_or = of_transmission IsSilentOr g (λ f idle. inl (ap (λ (z : Step). z.sends) (idle.step s a x (fields_in x).dst w)))
      (λ _. inr (λ e. refl)) (λ cone. never g.cone cone plain) (λ _. inr (λ e. refl))

module _ (s : Settings) (j : Journal) (n : ℕ) (x : List ℕ) (w : Words)
    (is_one : is_packet x ≡ true) (plain : (is_teredo (fields_in x).dst && has_cone (fields_in x).dst) ≡ false) where
  abbrev to : Ip6
  to = (fields_in x).dst

  abbrev its : Entry
  its = client_out s j n x w

  destination : destination_in x ≡ Some to
  unfolding destination_in
  destination = ap (λ (b : Bool). cond b (Some to) None) is_one

  its_peer : its.peer ≡ Some to
  unfolding client_out
  its_peer = destination

  its_moment : its.moment ≡ n
  unfolding client_out
  its_moment = refl

  -- nothing is sent, or the destination is listed
  silent_or_listed : (its.step.sends ≡ []) ⊎ ((mention its).bearing.touches ≡ true)
  unfolding client_out transmission.transmission transmission.given
  silent_or_listed = by (silent_or s (standing_at s j n to) x w (given_of s (standing_at s j n to) (is_packet x) (fields_in x)) plain) where
    row : Standing → Fate
    row a = transmission_row (given_of s a (is_packet x) (fields_in x))

    by : ((transmission_step s (standing_at s j n to) x to w (row (standing_at s j n to))).sends ≡ [])
        ⊎ ((e : Entry) → (bearing_of (row (standing_at s j n to)) e).touches ≡ true)
        → (its.step.sends ≡ []) ⊎ ((mention its).bearing.touches ≡ true)
    by (inl silent) = inl (ap (λ (a : Standing). (transmission_step s a x to w (row a)).sends) (stands_for s j n x is_one) ∙ silent)
    by (inr touches) = inr (ap (λ (f : Fate). (bearing_of f its).touches) (fate_of_transmission s (standing_of s j n (destination_in x)) x w
        ∙ ap row (stands_for s j n x is_one)) ∙ touches its)

  -- so nothing is sent, or there is no room for another one where there was none for both
  pub silent_or_no_room : (v : Ip6) → same_ip6 to v ≡ false → length (listed (mentions j.entries) n) ≤ PEERS_MAX → has_room (mentions j.entries) n to ≡ true
      → has_room_for_both (mentions j.entries) n to v ≡ false
      → (its.step.sends ≡ []) ⊎ (has_room (mentions (its ∷ j.entries)) n v ≡ false)
  silent_or_no_room v apart few room both = by silent_or_listed where
    by : (its.step.sends ≡ []) ⊎ ((mention its).bearing.touches ≡ true) → (its.step.sends ≡ []) ⊎ (has_room (mentions (its ∷ j.entries)) n v ≡ false)
    by (inl silent) = inl silent
    by (inr touches) = inr (subst (λ (ms : List Mention). has_room ms n v ≡ false) (sym (host_mentions s j n x w))
        (no_room_left (mention its) (mentions j.entries) n to its_peer touches its_moment v apart few room both))
