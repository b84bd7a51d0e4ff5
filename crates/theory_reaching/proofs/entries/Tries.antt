-- What a client sends of a packet of its host for another one: the packet itself to where the other's address says, or bubbles.
use Rattle.theory_reaching.proofs.Words.{AllByRecursion, Bool, Ep, Fate, Given, Ip6, IsJournal, Journal, List, None, Option, Send, Settings, Some, Standing, Words, ap, both_bubbles, client_out, destination_lines, direct_bubble, embedded, false, fields_in, first_of_each, given_of, has_cone, host_lines, indirect_bubble, inl, inr, is_barred, is_packet, is_teredo, known_in, map, option_to_list, own_address, qualification, queues, refl, send, standing_at, stands_for, subst, sym, transmission_row, transmission_step, tries_by, true, trusted_is_embedded, try_sends, ℕ, ◌++◌, ◌≡◌, ◌⊎◌}
use Rattle.teredo_node.specs.declared.fate.Fate.TheVariants as fate
use Rattle.client_rules.specs.Transmission as transmission

-- the packet itself, a bubble to the other one, or a bubble to its server
abbrev pub IsSentTo : (own to : Ip6) → List ℕ → Send → Type 0
IsSentTo own to x s = (s ≡ send (embedded to) x) ⊎ ((s ≡ direct_bubble own to (embedded to)) ⊎ (s ≡ indirect_bubble own to))

module _ (s : Settings) (a : Standing) (x : List ℕ) (to : Ip6) (w : Words) (g : Given) (teredo : is_teredo to ≡ true)
    (trusts : (at : Ep) → (known_in a).trusted ≡ Some at → at ≡ embedded to) where
  abbrev own : Ip6
  own = own_address a.qualification

  abbrev AreSentTo : List Send → Type 0
  AreSentTo xs = AllByRecursion (IsSentTo own to x) xs

  abbrev Sends : Fate → Type 0
  Sends f = AreSentTo (transmission_step s a x to w f).sends

  to_trusted : Sends fate.Sent
  to_trusted = by (known_in a).trusted refl where
    by : (o : Option Ep) → (known_in a).trusted ≡ o → AreSentTo (map (λ (at : Ep). send at x) (option_to_list o))
    by None is = tt
    by (Some at) is = (inl (ap (λ (z : Ep). send z x) (trusts at is)), tt)

  bubbles : (cone : Bool) → AreSentTo (both_bubbles cone own to)
  bubbles true = (inr (inr refl), tt)
  bubbles false = (inr (inl refl), (inr (inr refl), tt))

  tries : AreSentTo (try_sends s own to w)
  unfolding try_sends
  tries = subst (λ (b : Bool). AreSentTo (tries_by b s own to w)) (sym teredo) (bubbles (has_cone own))

  queued : (barred : Bool) → AreSentTo (queues barred s a to w).sends
  queued true = tt
  queued false = tries

  -- whatever line holds
  all_sent : Sends (transmission_row g)
  all_sent = first_of_each Sends (host_lines g ++ destination_lines g) fate.Queued
      (tt, (tt, (tt, (tt, (tt, (tt, (tt, (tt, (to_trusted, ((inl refl, tt), (tt, (tt, (tt, tt)))))))))))))
      (queued (is_barred a.moment (known_in a)))

-- so it is of a packet's entry
module _ (s : Settings) (j : Journal) (n : ℕ) (x : List ℕ) (w : Words) (is : IsJournal s j) (is_one : is_packet x ≡ true)
    (teredo : is_teredo (fields_in x).dst ≡ true) where
  pub all_sent_to : AllByRecursion (IsSentTo (own_address (qualification s j)) (fields_in x).dst x) (client_out s j n x w).step.sends
  unfolding client_out transmission.transmission transmission.given standing_at
  all_sent_to = subst (λ (a : Standing). AllByRecursion (IsSentTo (own_address (qualification s j)) (fields_in x).dst x)
      (transmission_step s a x (fields_in x).dst w (transmission_row (given_of s a (is_packet x) (fields_in x)))).sends)
      (sym (stands_for s j n x is_one))
      (all_sent s (standing_at s j n (fields_in x).dst) x (fields_in x).dst w
      (given_of s (standing_at s j n (fields_in x).dst) (is_packet x) (fields_in x)) teredo
      (λ at trusted. trusted_is_embedded s j n (fields_in x).dst at is teredo trusted))
