-- What an entry of a client does to phase, address and queues.
use Rattle.client_rules.proofs.Words.{Bool, Cone, Due, Entry, Ep, Fate, Given, GoesLater, GoesOut, Heard, IfSome, Input, IsOwnTo, Journal, List, None, OffLine, Option, Phase, Policy, Qualification, Qualified, Restricted, SOLICITATIONS_MAX, Secondary, Seen, SentOnlyIf, Settings, Some, Standing, Step, Symmetric, Turn, Words, [], advert_lines, advert_row, ap, arrived, asks, by_lines, client_entry, client_in, client_out, client_tick, cond, datagram_lines, destination_in, destination_lines, direct_lines, due_at, due_fate, due_step, entry, false, false≢true, fields_in, first_line, first_peer, from_six, given_to, heard, host_lines, indirect_lines, is_packet, is_qualified, is_some, is_spent, is_teredo, is_usable_origin, leaves, nat_lt, not, not-false, origin_given, origin_in, own_address, packet_given, packet_in, packet_lines, phase_line, qualification, qualifies, reception, reception_fate, reception_row, refl, same_ip6-true, seen, skip, skip_one, solicits_by, source_in, standing_at, standing_of, subst, sym, ticked, ticks, transmission, transmission_row, tries, tries_peer, true, try_fate, turn, turn_of, value_in, ℕ, ◌&&◌, ◌++◌, ◌∙◌, ◌∷◌, ◌≡◌}
use Rattle.teredo_node.specs.declared.fate.Fate.TheVariants as fate
use Rattle.teredo_node.specs.Journal.{given}
use Rattle.qualify.specs.Turns.{is_changed}
use Rattle.client_rules.specs.Ticks.{nothing}
use Rattle.client_rules.proofs.Fates.{fate_of_reception, fate_of_transmission}
use Rattle.client_rules.proofs.Given.{transmission_is_warranted}

-- FATES

-- a turn that sets the address
abbrev pub sets : Turn → Bool
sets (qualifies cone) = true
sets is_changed = true
sets _ = false

abbrev is_queued : Fate → Bool
is_queued fate.Queued = true
is_queued _ = false

-- a fate in a phase, where this origin was told: Qualified isn't left, and an address is set from an origin
record IsStep (phase : Phase) (o : Option Ep) (f : Fate) : Type 0 where
  still : is_qualified phase ≡ true → leaves phase (turn f) ≡ false
  told : sets (turn f) ≡ true → is_some o ≡ true

still_in : (phase : Phase) (t : Turn) → leaves Qualified t ≡ false → is_qualified phase ≡ true → leaves phase t ≡ false
still_in Qualified t h q = h
still_in Cone t h q = absurd (false≢true q)
still_in Restricted t h q = absurd (false≢true q)
still_in Secondary t h q = absurd (false≢true q)
still_in Symmetric t h q = absurd (false≢true q)
still_in OffLine t h q = absurd (false≢true q)

plain : (phase : Phase) (o : Option Ep) (f : Fate) → leaves Qualified (turn f) ≡ false → sets (turn f) ≡ false → IsStep phase o f
plain phase o f h k = record {
  still = still_in phase (turn f) h;
  told = λ s. absurd (false≢true (sym k ∙ s));
}

-- DATAGRAMS

-- such a step, which queues nothing
abbrev IsReceived : Phase → Option Ep → Fate → Type 0
IsReceived phase o f = IsStep phase o f × (is_queued f ≡ false)

usable_some : (policy : Policy) (o : Option Ep) → is_usable_origin policy o ≡ true → is_some o ≡ true
usable_some policy None h = absurd (false≢true h)
usable_some policy (Some ep) h = refl

by_phase : (phase : Phase) (same : Bool) (o : Option Ep) → is_some o ≡ true → IsReceived phase o (phase_line phase same)
by_phase Cone same o h = (record { still = λ q. absurd (false≢true q); told = λ _. h }, refl)
by_phase Restricted same o h = (record { still = λ q. absurd (false≢true q); told = λ _. h }, refl)
by_phase Secondary true o h = (record { still = λ q. absurd (false≢true q); told = λ _. h }, refl)
by_phase Secondary false o h = (record { still = λ q. absurd (false≢true q); told = λ _. h }, refl)
by_phase Qualified true o h = (record { still = λ _. refl; told = λ _. h }, refl)
by_phase Qualified false o h = (record { still = λ _. refl; told = λ _. h }, refl)
by_phase Symmetric same o h = (record { still = λ q. absurd (false≢true q); told = λ _. h }, refl)
by_phase OffLine same o h = (record { still = λ q. absurd (false≢true q); told = λ _. h }, refl)

advertised : (h : Heard) (phase : Phase) (o : Option Ep) → h.phase ≡ phase → (h.usable_origin ≡ true → is_some o ≡ true) → IsReceived phase o (first_line (advert_lines h) (phase_line h.phase h.same_origin))
advertised h phase o is some = by_lines (λ (f : Fate). IsReceived phase o f) (advert_lines h) (phase_line h.phase h.same_origin) (
  (λ _. (plain phase o fate.Nonce refl refl, refl)),
  (λ _. (
    (λ _. (plain phase o fate.AdvertSource refl refl, refl)),
    (λ _. (
      (λ _. (plain phase o fate.Origin refl refl, refl)),
      (λ usable. (
        (λ _. (plain phase o fate.Prefix refl refl, refl)),
        (λ _. (
          (λ _. (plain phase o fate.Prefix refl refl, refl)),
          (λ _.
              subst (λ ph. IsReceived phase o (phase_line ph h.same_origin)) (sym is) (by_phase phase h.same_origin o (some (not-false h.usable_origin usable)))),
        )),
      )),
    )),
  )),
)

received_row : (a : Seen) (phase : Phase) (o : Option Ep) (advert : Fate) → IsReceived phase o advert → IsReceived phase o (reception_row a advert)
received_row a phase o advert h =
    let P : Fate → Type 0 = λ f. IsReceived phase o f in
    let direct : P (first_line (direct_lines a ++ []) fate.Suspicious) =
    skip P (direct_lines a) [] fate.Suspicious (
      (plain phase o fate.Rule1Bubble refl refl, refl),
      (
        (plain phase o fate.Rule1 refl refl, refl),
        (
          (plain phase o fate.Rule2 refl refl, refl),
          (
            (plain phase o fate.PeersFull refl refl, refl),
            (
              (plain phase o fate.Rule3Bubble refl refl, refl),
              (
                (plain phase o fate.Rule3 refl refl, refl),
                (
                  (plain phase o fate.Mismatch refl refl, refl),
                  (
                    (plain phase o fate.HeldTest refl refl, refl),
                    (
                      (plain phase o fate.SuspiciousTest refl refl, refl),
                      ((plain phase o fate.Held refl refl, refl), tt),
                    ),
                  ),
                ),
              ),
            ),
          ),
        ),
      ),
    ) (plain phase o fate.Suspicious refl refl, refl) in
    let inner : List (Bool × Fate) = packet_lines a ++ (indirect_lines a ++ direct_lines a) in
    let packet : P (first_line inner fate.Suspicious) = skip P (packet_lines a) (indirect_lines a
    ++ direct_lines a) fate.Suspicious (
      (plain phase o fate.Off refl refl, refl),
      ((plain phase o fate.NotMine refl refl, refl), ((plain phase o fate.Itself refl refl, refl), tt)),
    )
    (skip P (indirect_lines a) (direct_lines a) fate.Suspicious (
      (plain phase o fate.Origin refl refl, refl),
      (
        (plain phase o fate.PeersFull refl refl, refl),
        (
          (plain phase o fate.Barred refl refl, refl),
          ((plain phase o fate.Indirect refl refl, refl), tt),
        ),
      ),
    ) direct) in
    skip P (datagram_lines a) ((a.from_server && a.ill_formed, fate.Icmp) ∷ (a.from_server && a.advert, advert) ∷ (a.from_server && not (a.bubble && a.origin), fate.ServerOther) ∷ inner) fate.Suspicious
    ((plain phase o fate.Malformed refl refl, refl), ((plain phase o fate.Keyed refl refl, refl), ((plain phase o fate.Confirmation refl refl, refl), ((plain phase o fate.Big refl refl, refl), tt))))
    (skip_one P (a.from_server && a.ill_formed) fate.Icmp ((a.from_server && a.advert, advert) ∷ (a.from_server && not (a.bubble && a.origin), fate.ServerOther) ∷ inner) fate.Suspicious (plain phase o fate.Icmp refl refl, refl)
    (skip_one P (a.from_server && a.advert) advert ((a.from_server && not (a.bubble && a.origin), fate.ServerOther) ∷ inner) fate.Suspicious h
    (skip_one P (a.from_server && not (a.bubble && a.origin)) fate.ServerOther inner fate.Suspicious (plain phase o fate.ServerOther refl refl, refl) packet)))

received : (s : Settings) (a : Standing) (from : Ep) (x : List ℕ) → IsReceived a.qualification.phase (origin_in (value_in x).lead) (reception_fate s a from x)
unfolding reception_fate advert_row
received s a from x =
    let h = heard s a.qualification from (value_in x) in
    received_row (seen s a from x) a.qualification.phase (origin_in (value_in x).lead) (first_line (advert_lines h) (phase_line h.phase h.same_origin))
    (advertised h a.qualification.phase (origin_in (value_in x).lead) refl (usable_some s.policy (origin_in (value_in x).lead)))

-- ENTRIES

-- a queued packet is of the client's address then, and the host handed it in
pub record IsQueuedAt (q : Qualification) (e : Entry) : Type 0 where
  pub given : IfSome e.packet (λ x. e.input ≡ given x)
  pub qualified : is_qualified q.phase ≡ true
  pub there : is_some e.packet ≡ true
  pub packet : IfSome e.packet (λ x. IsOwnTo (Some (own_address q)) e.peer x)

-- what an entry does, after a journal that says this
pub record IsEffect (q : Qualification) (e : Entry) : Type 0 where
  pub still : is_qualified q.phase ≡ true → leaves q.phase (turn_of e) ≡ false
  pub told : sets (turn_of e) ≡ true → is_some (origin_given e.input) ≡ true
  pub queued : e.step.fate ≡ fate.Queued → IsQueuedAt q e

-- of a step that queues nothing
unqueued : (q : Qualification) (e : Entry) (f : Fate) → e.step.fate ≡ f → IsReceived q.phase (origin_given e.input) f → IsEffect q e
unqueued q e f is h = record {
  still = subst (λ g. is_qualified q.phase ≡ true → leaves q.phase (turn g) ≡ false) (sym is) h.0.still;
  told = subst (λ g. sets (turn g) ≡ true → is_some (origin_given e.input) ≡ true) (sym is) h.0.told;
  queued = λ k. absurd (false≢true (sym h.1 ∙ ap is_queued (sym is ∙ k)));
}

of_datagram : (s : Settings) (a : Standing) (n : ℕ) (from : Ep) (x : List ℕ) (w : Words) → IsEffect a.qualification (entry n (arrived from x) (packet_in x) (source_in x) w (reception s a from x w))
of_datagram s a n from x w = unqueued a.qualification (entry n (arrived from x) (packet_in x) (source_in x) w (reception s a from x w)) (reception_fate s a from x) (fate_of_reception s a from x w) (received s a from x)

-- PACKETS OF THE HOST

sent_row : (a : Given) (phase : Phase) (o : Option Ep) → IsStep phase o (transmission_row a)
sent_row a phase o = skip (λ (f : Fate). IsStep phase o f) (host_lines a
    ++ destination_lines a) [] fate.Queued (
      plain phase o fate.Off refl refl,
      (
        plain phase o fate.Malformed refl refl,
        (
          plain phase o fate.Big refl refl,
          (
            plain phase o fate.Source refl refl,
            (
              plain phase o fate.Dest refl refl,
              (
                plain phase o fate.Bubble refl refl,
                (
                  plain phase o fate.Itself refl refl,
                  (
                    plain phase o fate.Embedded refl refl,
                    (
                      plain phase o fate.Sent refl refl,
                      (
                        plain phase o fate.SentCone refl refl,
                        (
                          plain phase o fate.PeersFull refl refl,
                          (plain phase o fate.Barred refl refl, (plain phase o fate.QueueFull refl refl, tt)),
                        ),
                      ),
                    ),
                  ),
                ),
              ),
            ),
          ),
        ),
      ),
    ) (plain phase o fate.Queued refl refl)

is_there : (b : Bool) (x : List ℕ) → b ≡ true → is_some (cond b (Some x) None) ≡ true
is_there true x h = refl
is_there false x h = absurd (false≢true h)

if_there : (b : Bool) (x : List ℕ) (P : List ℕ → Type 0) → P x → IfSome (cond b (Some x) None) P
if_there true x P h = h
if_there false x P h = tt

-- it is from the client's address
pub own_to : (s : Settings) (a : Standing) (x : List ℕ) → GoesOut (given_to s a x) → IsOwnTo (Some (own_address a.qualification)) (destination_in x) x
unfolding given_to destination_in
own_to s a x out = record {
  well_formed = out.packet;
  short = out.short;
  no_bubble = out.no_bubble;
  source = ap Some (sym (same_ip6-true (fields_in x).src (own_address a.qualification) out.own_source));
  destination = ap (λ (b : Bool). cond b (Some (fields_in x).dst) None) out.packet;
}

queued_at : (s : Settings) (a : Standing) (n : ℕ) (x : List ℕ) (w : Words) (step : Step) → GoesLater (given_to s a x) → IsQueuedAt a.qualification (entry n (given x) (packet_given x) (destination_in x) w step)
unfolding given_to packet_given
queued_at s a n x w step g = record {
  given = if_there (is_packet x) x (λ y. given x ≡ given y) refl;
  qualified = g.out.qualified;
  there = is_there (is_packet x) x g.out.packet;
  packet = if_there (is_packet x) x (λ y. IsOwnTo (Some (own_address a.qualification)) (destination_in x) y) (own_to s a x g.out);
}

of_packet : (s : Settings) (a : Standing) (n : ℕ) (x : List ℕ) (w : Words) → IsEffect a.qualification (entry n (given x) (packet_given x) (destination_in x) w (transmission s a x w))
of_packet s a n x w =
    let is = fate_of_transmission s a x w in
    let h : IsStep a.qualification.phase None (transmission_row (given_to s a x)) = sent_row (given_to s a x) a.qualification.phase None in
    record {
      still = subst (λ g. is_qualified a.qualification.phase ≡ true → leaves a.qualification.phase (turn g) ≡ false) (sym is) h.still;
      told = subst (λ g. sets (turn g) ≡ true → is_some (origin_given (given x)) ≡ true) (sym is) h.told;
      queued = λ k. queued_at s a n x w (transmission s a x w) (subst (λ f. SentOnlyIf f (given_to s a x)) (sym is ∙ k) (transmission_is_warranted s a x));
    }

-- TICKS

due_is : (s : Settings) (q : Qualification) (w : Words) (phase : Phase) (sends : ℕ) (o : Option Ep) → IsReceived phase o ((solicits_by s q w (due_fate phase sends)).fate)
due_is s q w Cone sends o = elim (nat_lt sends SOLICITATIONS_MAX) as
    (λ b. IsReceived Cone o ((solicits_by s q w (cond b fate.RsCone fate.RsRestricted)).fate)) [
      | true ↦ (record { still = λ k. absurd (false≢true k); told = λ k. absurd (false≢true k) }, refl)
      | false ↦ (record { still = λ k. absurd (false≢true k); told = λ k. absurd (false≢true k) }, refl)
    ]
due_is s q w Restricted sends o = elim (nat_lt sends SOLICITATIONS_MAX) as
    (λ b. IsReceived Restricted o ((solicits_by s q w (cond b fate.RsRestricted fate.OffLine)).fate)) [
      | true ↦ (record { still = λ k. absurd (false≢true k); told = λ k. absurd (false≢true k) }, refl)
      | false ↦ (record { still = λ k. absurd (false≢true k); told = λ k. absurd (false≢true k) }, refl)
    ]
due_is s q w Secondary sends o = elim (nat_lt sends SOLICITATIONS_MAX) as
    (λ b. IsReceived Secondary o ((solicits_by s q w (cond b fate.RsSecondary fate.OffLine)).fate)) [
      | true ↦ (record { still = λ k. absurd (false≢true k); told = λ k. absurd (false≢true k) }, refl)
      | false ↦ (record { still = λ k. absurd (false≢true k); told = λ k. absurd (false≢true k) }, refl)
    ]
due_is s q w Qualified sends o = (plain Qualified o fate.Refresh refl refl, refl)
due_is s q w Symmetric sends o = (plain Symmetric o fate.Idle refl refl, refl)
due_is s q w OffLine sends o = (plain OffLine o fate.Idle refl refl, refl)

tried : (teredo : Bool) (phase : Phase) (o : Option Ep) → IsReceived phase o (try_fate teredo)
tried true phase o = (plain phase o fate.Bubbles refl refl, refl)
tried false phase o = (plain phase o fate.Test refl refl, refl)

of_due : (s : Settings) (j : Journal) (n : ℕ) (w : Words) (due : Due) → IsEffect (qualification s j) (ticks s j n w due)
unfolding due_step
of_due s j n w asks = unqueued (qualification s j) (ticks s j n w asks) _ refl (due_is s (qualification s j) w (qualification s j).phase (qualification s j).sends None)
of_due s j n w (tries l) = by_spent (is_spent n l.peer) refl where
  by_spent : (b : Bool) → is_spent n l.peer ≡ b → IsEffect (qualification s j) (ticks s j n w (tries l))
  by_spent true e = unqueued (qualification s j) (ticks s j n w (tries l)) fate.GiveUp (ap (λ c. (tries_peer c s (qualification s j) l w).fate) e) (plain (qualification s j).phase None fate.GiveUp refl refl, refl)
  by_spent false e = unqueued (qualification s j) (ticks s j n w (tries l)) (try_fate (is_teredo l.who)) (ap (λ c. (tries_peer c s (qualification s j) l w).fate) e) (tried (is_teredo l.who) (qualification s j).phase None)
of_due s j n w nothing = unqueued (qualification s j) (ticks s j n w nothing) fate.Idle refl (plain (qualification s j).phase None fate.Idle refl refl, refl)

-- ANY ENTRY

pub of_entry : (s : Settings) (j : Journal) (n : ℕ) (input : Input) (w : Words) → IsEffect (qualification s j) (client_entry s j n input w)
unfolding client_in client_out client_tick standing_at
of_entry s j n (arrived from x) w = of_datagram s (standing_of s j n (source_in x)) n from x w
of_entry s j n (given x) w = of_packet s (standing_of s j n (destination_in x)) n x w
of_entry s j n ticked w = of_due s j n w (due_at n (qualification s j) (first_peer j n))
of_entry s j n (from_six x) w = unqueued (qualification s j) (client_entry s j n (from_six x) w) fate.Idle refl (plain (qualification s j).phase None fate.Idle refl refl, refl)
