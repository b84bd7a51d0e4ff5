-- A sender that is barred for the receiver, or has no room for it, sends nothing.
use Rattle.theory_reaching.proofs.Words.{Bool, Fate, Given, Ip6, Journal, List, Settings, Standing, Step, Words, [], ap, client_out, false, fields_in, given_of, has_cone, has_room, inl, inr, is_barred, is_fresh, is_packet, is_teredo, known, known_in, mentions, queues, standing_at, stands_for, subst, sym, transmission_row, transmission_step, true, ℕ, ◌&&◌, ◌≡◌, ◌⊎◌}
use Rattle.teredo_node.specs.declared.fate.Fate.TheVariants as fate
use Rattle.client_rules.specs.Transmission as transmission
use Rattle.theory_reaching.proofs.entries.IdleFates.{of_transmission}
use Rattle.theory_reaching.proofs.Tests.{never}

module _ (s : Settings) (a : Standing) (x : List ℕ) (w : Words) (g : Given) (stale : g.fresh ≡ false) (plain : g.cone ≡ false)
    (closed : (is_barred a.moment (known_in a) ≡ true) ⊎ (g.room ≡ false)) where
  abbrev SendsNothing : Fate → Type 0
  SendsNothing f = (transmission_step s a x (fields_in x).dst w f).sends ≡ []

  queued : g.room ≡ true → (is_barred a.moment (known_in a) ≡ true) ⊎ (g.room ≡ false) → SendsNothing fate.Queued
  queued room (inl barred) = ap (λ (b : Bool). (queues b s a (fields_in x).dst w).sends) barred
  queued room (inr full) = never g.room room full

  -- whatever line holds, nothing is sent
  nothing_sent : SendsNothing (transmission_row g)
  nothing_sent = of_transmission SendsNothing g (λ f idle. ap (λ (z : Step). z.sends) (idle.step s a x (fields_in x).dst w))
      (λ fresh. never g.fresh fresh stale) (λ cone. never g.cone cone plain) (λ room. queued room closed)

module _ (s : Settings) (j : Journal) (n : ℕ) (x : List ℕ) (w : Words) (is_one : is_packet x ≡ true) where
  abbrev to : Ip6
  to = (fields_in x).dst

  -- of a packet to a peer that isn't fresh and has no cone bit
  pub sends_nothing : is_fresh n (known (mentions j.entries) n to) ≡ false → (is_teredo to && has_cone to) ≡ false
      → (is_barred n (known (mentions j.entries) n to) ≡ true) ⊎ (has_room (mentions j.entries) n to ≡ false) → (client_out s j n x w).step.sends ≡ []
  unfolding client_out transmission.transmission transmission.given standing_at
  sends_nothing stale plain closed = subst (λ (a : Standing).
      (transmission_step s a x to w (transmission_row (given_of s a (is_packet x) (fields_in x)))).sends ≡ [])
      (sym (stands_for s j n x is_one))
      (nothing_sent s (standing_at s j n to) x w (given_of s (standing_at s j n to) (is_packet x) (fields_in x)) stale plain closed)
