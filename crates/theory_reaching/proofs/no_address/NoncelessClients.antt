-- What a client sends of a datagram without a nonce, or of a packet of its host, has none: it asks its server at a tick alone.
use Rattle.theory_reaching.proofs.Words.{AllByRecursion, Bool, Ep, Fate, Given, Ip6, IsJournal, IsOwnTo, Journal, List, None, Option, Qualification, Seen, Send, SentOnlyIf, Settings, Some, Standing, Step, Value, Words, [], advert_lines, advert_row, ap, both_bubbles, client_in, client_out, client_transmission_is_warranted, destination_in, direct_bubble, direct_lines, false, fields_in, first_line, first_of_each, has_cone, heard, is_barred, is_one_of, is_packet, is_teredo, known_in, map, nonce_from, nonce_of, option_to_list, origin_in, own_address, phase_line, queues, reception_fate, reception_row, reception_step, releases, seen, send, source_in, standing_at, standing_of, subst, sym, transmission_row, transmission_step, tries_by, true, try_sends, unspecified, unwrap_or, value_in, waiting_is_own, ℕ, ◌∷◌, ◌≡◌}
use Rattle.teredo_node.specs.declared.fate.Fate.TheVariants as fate
use Rattle.client_rules.specs.Tries as tries
use Rattle.client_rules.specs.Reception as reception
use Rattle.client_rules.specs.Transmission as transmission
use Rattle.client_rules.specs.Transmission.{given}
use Rattle.theory_reaching.proofs.entries.IdleFates.{of_reception, of_transmission}
use Rattle.theory_reaching.proofs.no_address.Nonceless.{HasNoNonce, IsPlain, whole, bubble_is, test_is}

abbrev pub ArePlain : List Send → Type 0
ArePlain xs = AllByRecursion (λ (z : Send). IsPlain z.bytes) xs

-- AN ADVERTISEMENT WITHOUT A NONCE

none_open : (ns : List ℕ) (o : Option ℕ) → o ≡ None → is_one_of ns o ≡ false
none_open ns o none = ap (is_one_of ns) none

-- is dropped
pub advert_is_dropped : (s : Settings) (q : Qualification) (from : Ep) (v : Value) → nonce_of v.lead ≡ None → advert_row s q from v ≡ fate.Nonce
unfolding advert_row
advert_is_dropped s q from v none =
    let a = heard s q from v in
    ap (λ (b : Bool). first_line (advert_lines (record a { open_nonce = b })) (phase_line a.phase a.same_origin))
    (none_open q.open_nonces (nonce_of v.lead) none)

-- ITS TRIES

tried_by : (teredo : Bool) (s : Settings) (own p : Ip6) (w : Words) → ArePlain (tries_by teredo s own p w)
unfolding tries.test
tried_by true s own p w = both (has_cone own) where
  both : (cone : Bool) → ArePlain (both_bubbles cone own p)
  both true = (bubble_is own p, tt)
  both false = (bubble_is own p, (bubble_is own p, tt))
tried_by false s own p w = (test_is own p (nonce_from w), tt)

tried : (s : Settings) (own p : Ip6) (w : Words) → ArePlain (try_sends s own p w)
unfolding try_sends
tried s own p w = tried_by (is_teredo p) s own p w

released : (to : Ep) (xs : List (List ℕ)) → AllByRecursion (λ (x : List ℕ). is_packet x ≡ true) xs → ArePlain (releases to xs)
released to [] all = tt
released to (x ∷ xs) all = (whole all.0, released to xs all.1)

-- A DATAGRAM

module _ (s : Settings) (a : Standing) (from : Ep) (x : List ℕ) (v : Value) (w : Words)
    (waiting : AllByRecursion (λ (y : List ℕ). is_packet y ≡ true) (known_in a).waiting) where
  abbrev Sends : Fate → Type 0
  Sends f = ArePlain (reception_step s a from x v w f).sends

  answered : (o : Option Ep) → ArePlain (map (direct_bubble (own_address a.qualification) v.packet.src) (option_to_list o))
  answered None = tt
  answered (Some to) = (bubble_is (own_address a.qualification) v.packet.src, tt)

  tested : (f : Fate) → ArePlain (reception.tests_source f s a v w).sends
  unfolding tries.test
  tested f = (test_is (own_address a.qualification) v.packet.src (nonce_from w), tt)

  let_go : ArePlain (releases from (known_in a).waiting)
  let_go = released from (known_in a).waiting waiting

  directly : (z : Seen) → Sends (first_line (direct_lines z) fate.Suspicious)
  directly z = first_of_each Sends (direct_lines z) fate.Suspicious
      (let_go, (let_go, (let_go, (tt, (let_go, (let_go, (tt, (tested fate.HeldTest, (tested fate.SuspiciousTest, (tt, tt)))))))))) tt

  of_row : (z : Seen) → Sends (reception_row z fate.Nonce)
  of_row z = of_reception Sends z fate.Nonce (λ f idle. subst (λ (u : Step). ArePlain u.sends) (sym (idle.step s a from x v w)) tt) (λ _. tt)
      (λ _. answered (origin_in v.lead)) (λ _. directly z)

-- A PACKET OF THE HOST

module _ (s : Settings) (a : Standing) (x : List ℕ) (to : Ip6) (w : Words) (g : Given) (packet : g.packet ≡ true → is_packet x ≡ true) where
  abbrev Goes : Fate → Type 0
  Goes f = SentOnlyIf f g → ArePlain (transmission_step s a x to w f).sends

  sent_there : g.packet ≡ true → (o : Option Ep) → ArePlain (map (λ (at : Ep). send at x) (option_to_list o))
  sent_there is None = tt
  sent_there is (Some at) = (whole (packet is), tt)

  queued : (barred : Bool) → ArePlain (queues barred s a to w).sends
  queued true = tt
  queued false = tried s (own_address a.qualification) to w

  of_given : Goes (transmission_row g)
  of_given = of_transmission Goes g (λ f idle _. subst (λ (u : Step). ArePlain u.sends) (sym (idle.step s a x to w)) tt)
      (λ _ is. sent_there is.out.packet (known_in a).trusted) (λ _ is. (whole (packet is.out.packet), tt)) (λ _ _. queued (is_barred a.moment (known_in a)))

-- THE ENTRY

each_packet : (own to : Option Ip6) (xs : List (List ℕ)) → AllByRecursion (IsOwnTo own to) xs → AllByRecursion (λ (x : List ℕ). is_packet x ≡ true) xs
each_packet own to [] all = tt
each_packet own to (x ∷ xs) all = (all.0.well_formed, each_packet own to xs all.1)

module _ (s : Settings) (j : Journal) (n : ℕ) (x : List ℕ) (w : Words) where
  pub of_datagram : IsJournal s j → (from : Ep) → HasNoNonce x → ArePlain (client_in s j n from x w).step.sends
  unfolding client_in reception.reception reception_fate standing_at
  of_datagram is from none =
      let a = standing_of s j n (source_in x) in
      subst (λ (f : Fate). ArePlain (reception_step s a from x (value_in x) w (reception_row (seen s a from x) f)).sends)
      (sym (advert_is_dropped s a.qualification from (value_in x) none))
      (of_row s a from x (value_in x) w (each_packet _ _ (known_in a).waiting (waiting_is_own s j n (unwrap_or (source_in x) unspecified) is)) (seen s a from x))

  pub of_host : ArePlain (client_out s j n x w).step.sends
  unfolding client_out transmission.transmission given
  of_host =
      let a = standing_of s j n (destination_in x) in
      of_given s a x (fields_in x).dst w (given s a x) (λ is. is) (client_transmission_is_warranted s a x)
