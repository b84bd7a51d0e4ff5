-- What a client hands to its host, by the fates.
use Rattle.client_rules.proofs.Trusts.{trusted_is_embedded}
use Rattle.client_rules.proofs.Words.{Bool, Cone, Due, EachHanded, Entry, Ep, Fate, HandingRule, HandsOver, Input, Ip6, IsDirect, IsEmbedded, IsHanded, IsJournal, IsTrusted, Journal, List, None, OffLine, Option, Phase, Qualification, Qualified, ReceivedOnlyIf, Restricted, SOLICITATIONS_MAX, Secondary, Settings, Some, Span, Standing, Step, Symmetric, Value, Words, [], and_parts, ap, arrived, asks, client_entry, client_in, client_out, client_tick, cond, destination_in, due_at, due_fate, due_step, embedded, false, false≢true, fields_in, first_peer, from_six, given_to, heard, is_barred, is_ep, is_qualified, is_some, is_spent, is_teredo, is_trusted_at, known_in, nat_lt, own_address, qualification, queues, reception, reception_fate, reception_step, refl, rest_of, rule1, rule3, same_ep, same_ep-true, same_ip6-true, seen, solicits_by, source_in, standing_at, standing_of, subst, sym, tick, ticked, transmission, transmission_row, transmission_step, tries, tries_peer, true, unspecified, unwrap_or, value_in, ℕ, ◌∙◌, ◌≡◌}
use Rattle.teredo_node.specs.declared.fate.Fate.TheVariants as fate
use Rattle.teredo_node.specs.Journal.{given}
use Rattle.client_rules.specs.Ticks.{nothing}
use Rattle.client_rules.proofs.Fates.{fate_of_reception}
use Rattle.client_rules.proofs.Received.{reception_is_warranted}
use Rattle.client_rules.proofs.Addressed.{own_is, qualified_has_address}

-- EACH FATE

-- rules 1 and 3 alone hand over
by_reception : (R : Option Span → Type 0) (s : Settings) (a : Standing) (from : Ep) (x : List ℕ) (v : Value) (w : Words) (f : Fate)
    → (f ≡ fate.Rule1 → R (Some (rest_of v.lead.at x))) → (f ≡ fate.Rule3 → R (Some (rest_of v.lead.at x)))
    → is_some (reception_step s a from x v w f).handed ≡ true → R (reception_step s a from x v w f).handed
by_reception R s a from x v w fate.Rule1 one three h = one refl
by_reception R s a from x v w fate.Rule3 one three h = three refl
by_reception R s a from x v w _ one three h = absurd (false≢true h)

-- neither at once nor late
abbrev pub HandsNothing : Step → Type 0
HandsNothing step = (is_some step.handed ≡ false) × (step.late ≡ [])

queued : (b : Bool) (s : Settings) (a : Standing) (p : Ip6) (w : Words) → HandsNothing (queues b s a p w)
queued true s a p w = (refl, refl)
queued false s a p w = (refl, refl)

by_transmission : (s : Settings) (a : Standing) (x : List ℕ) (p : Ip6) (w : Words) (f : Fate) → HandsNothing (transmission_step s a x p w f)
by_transmission s a x p w fate.Queued = queued (is_barred a.moment (known_in a)) s a p w
by_transmission s a x p w _ = (refl, refl)

-- DATAGRAMS

-- what the journal says of the address, and of where this peer is trusted
record IsReadyToHand (a : Standing) (peer : Option Ip6) : Type 0 where
  addressed : is_some a.qualification.address ≡ is_qualified a.qualification.phase
  trusted : (at : Ep) → is_teredo (unwrap_or peer unspecified) ≡ true → (known_in a).trusted ≡ Some at → at ≡ embedded (unwrap_or peer unspecified)

pub trusted_at : (from : Ep) (o : Option Ep) → is_ep from o ≡ true → o ≡ Some from
trusted_at from None h = absurd (false≢true h)
trusted_at from (Some at) h = ap Some (same_ep-true at from h)

handed : (s : Settings) (a : Standing) (from : Ep) (x : List ℕ) → IsReadyToHand a (source_in x) → IsDirect (seen s a from x) → (seen s a from x).bubble ≡ false
    → (is_teredo (value_in x).packet.src ≡ true → from ≡ embedded (value_in x).packet.src) → IsHanded s a.qualification.address from x (Some (rest_of (value_in x).lead.at x))
unfolding seen own_address
handed s a from x r direct bubble there = record {
  payload = direct.mine.sound.payload;
  packet = refl;
  no_bubble = bubble;
  short = direct.mine.sound.short;
  mine = own_is a.qualification.address (r.addressed ∙ direct.mine.qualified) ∙ ap Some (sym (same_ip6-true (value_in x).packet.dst (unwrap_or a.qualification.address unspecified) direct.mine.mine));
  direct = direct.direct;
  there = there;
}

-- rule 1
trusted_there : (s : Settings) (a : Standing) (from : Ep) (x : List ℕ) → IsReadyToHand a (source_in x) → IsTrusted false (seen s a from x) → is_teredo (value_in x).packet.src ≡ true → from ≡ embedded (value_in x).packet.src
unfolding seen source_in is_trusted_at
trusted_there s a from x r t teredo =
    let same = ap (λ (b : Bool). unwrap_or (cond b (Some (value_in x).packet.src) None) unspecified) t.direct.mine.sound.payload in
    r.trusted from (ap is_teredo same ∙ teredo) (trusted_at from (known_in a).trusted t.trusted) ∙ ap embedded same

-- rule 3
sent_there : (s : Settings) (a : Standing) (from : Ep) (x : List ℕ) → IsEmbedded false (seen s a from x) → from ≡ embedded (value_in x).packet.src
unfolding seen
sent_there s a from x t = sym (same_ep-true (embedded (value_in x).packet.src) from ((and_parts (is_teredo (value_in x).packet.src) (same_ep (embedded (value_in x).packet.src) from) t.embedded).1))

of_datagram : (s : Settings) (a : Standing) (from : Ep) (x : List ℕ) (w : Words) → IsReadyToHand a (source_in x) → is_some (reception s a from x w).handed ≡ true
    → IsHanded s a.qualification.address from x (reception s a from x w).handed × HandingRule (reception s a from x w).fate
unfolding reception
of_datagram s a from x w r =
    let f = reception_fate s a from x in
    let is = fate_of_reception s a from x w in
    let told : (g : Fate) → f ≡ g → ReceivedOnlyIf g (seen s a from x) (heard s a.qualification from (value_in x)) =
    λ g k. subst (λ i. ReceivedOnlyIf i (seen s a from x) (heard s a.qualification from (value_in x))) k (reception_is_warranted s a from x) in
    by_reception (λ o. IsHanded s a.qualification.address from x o × HandingRule (reception s a from x w).fate) s a from x (value_in x) w f
    (λ k. let t = told fate.Rule1 k in (handed s a from x r t.direct t.kind (trusted_there s a from x r t), rule1 (is ∙ k)))
    (λ k. let t = told fate.Rule3 k in (handed s a from x r t.direct t.kind (λ _. sent_there s a from x t), rule3 (is ∙ k)))

-- PACKETS AND TICKS

pub of_packet : (s : Settings) (a : Standing) (x : List ℕ) (w : Words) → HandsNothing (transmission s a x w)
unfolding transmission
of_packet s a x w = by_transmission s a x (fields_in x).dst w (transmission_row (given_to s a x))

solicited : (s : Settings) (q : Qualification) (w : Words) (phase : Phase) (sends : ℕ) → HandsNothing (solicits_by s q w (due_fate phase sends))
solicited s q w Cone sends = elim (nat_lt sends SOLICITATIONS_MAX) as (λ b. HandsNothing (solicits_by s q w (cond b fate.RsCone fate.RsRestricted))) [ true ↦ (refl, refl) | false ↦ (refl, refl) ]
solicited s q w Restricted sends = elim (nat_lt sends SOLICITATIONS_MAX) as (λ b. HandsNothing (solicits_by s q w (cond b fate.RsRestricted fate.OffLine))) [ true ↦ (refl, refl) | false ↦ (refl, refl) ]
solicited s q w Secondary sends = elim (nat_lt sends SOLICITATIONS_MAX) as (λ b. HandsNothing (solicits_by s q w (cond b fate.RsSecondary fate.OffLine))) [ true ↦ (refl, refl) | false ↦ (refl, refl) ]
solicited s q w Qualified sends = (refl, refl)
solicited s q w Symmetric sends = (refl, refl)
solicited s q w OffLine sends = (refl, refl)

pub of_due : (s : Settings) (n : ℕ) (q : Qualification) (w : Words) (due : Due) → HandsNothing (tick s n q w due)
unfolding due_step
of_due s n q w asks = solicited s q w q.phase q.sends
of_due s n q w (tries l) = elim (is_spent n l.peer) as (λ b. HandsNothing (tries_peer b s q l w)) [ true ↦ (refl, refl) | false ↦ (refl, refl) ]
of_due s n q w nothing = (refl, refl)

-- ANY ENTRY

ready : (s : Settings) (j : Journal) (n : ℕ) (peer : Option Ip6) → IsJournal s j → IsReadyToHand (standing_of s j n peer) peer
unfolding standing_at
ready s j n peer a = record { addressed = qualified_has_address s j a; trusted = λ at teredo is. trusted_is_embedded s j n (unwrap_or peer unspecified) at a teredo is }

-- an entry hands over only so
abbrev HandsSo : Settings → Journal → Entry → Type 0
HandsSo s j e = is_some e.step.handed ≡ true → HandsOver s (qualification s j).address e.input e.step.handed × HandingRule e.step.fate

of_entry : (s : Settings) (j : Journal) (n : ℕ) (input : Input) (w : Words) → IsJournal s j → HandsSo s j (client_entry s j n input w)
unfolding client_in client_out client_tick standing_at
of_entry s j n (arrived from x) w a = of_datagram s (standing_of s j n (source_in x)) from x w (ready s j n (source_in x) a)
of_entry s j n (given x) w a = λ h. absurd (false≢true (sym (of_packet s (standing_of s j n (destination_in x)) x w).0 ∙ h))
of_entry s j n ticked w a = λ h. absurd (false≢true (sym (of_due s n (qualification s j) w (due_at n (qualification s j) (first_peer j n))).0 ∙ h))
of_entry s j n (from_six x) w a = λ h. absurd (false≢true h)

pub each_handed : EachHanded
each_handed s j e a = subst (λ (x : Entry). HandsSo s j x) (sym a.0.is) (of_entry s j e.moment e.input a.0.words a.1)
