-- What a client makes of an advertisement: its phase decides, and what it was told.
use Rattle.theory_verdicts.proofs.Words.{Bool, Entry, Ep, Fate, Given, Heard, Input, IsAdvert, Journal, List, Listing, Option, Qualification, ReceivedOnlyIf, Seen, Settings, Standing, TickedOnlyIf, Turn, Value, Words, [], ap, arrived, client_entry, client_in, client_out, client_tick, destination_in, destination_lines, differs, due_at, expected, false, false≢true, fate_of_reception, fate_of_transmission, first_peer, from_six, given, given_to, has_auth, heard, host_lines, is_answered, is_same_origin, is_some, origin_before, origin_in, phase_line, qualification, qualifies, reception, reception_fate, reception_is_warranted, reception_step, refl, same_ep-true, seen, skip, source_in, standing_at, standing_of, sym, tick, tick_is_warranted, ticked, transmission_row, true, turn, turn_of, value_in, ℕ, ◌++◌, ◌∙◌, ◌≡◌}
use Rattle.teredo_node.specs.declared.fate.Fate.TheVariants as fate
use Rattle.qualify.specs.Turns.{is_changed}

-- a turn that an advertisement alone brings
abbrev pub is_told : Turn → Bool
is_told (qualifies cone) = true
is_told is_answered = true
is_told differs = true
is_told is_changed = true
is_told _ = false

-- THE OTHER INPUTS

-- a packet of the host brings none of these
none_sent : (a : Given) → is_told (turn (transmission_row a)) ≡ false
none_sent a = skip (λ (f : Fate). is_told (turn f) ≡ false) (host_lines a ++ destination_lines a) [] fate.Queued
    (refl, (refl, (refl, (refl, (refl, (refl, (refl, (refl, (refl, (refl, (refl, (refl, (refl, tt))))))))))))) refl

-- nor does its entry
of_packet : (s : Settings) (j : Journal) (n : ℕ) (x : List ℕ) (w : Words) → is_told (turn_of (client_entry s j n (given x) w)) ≡ false
unfolding client_out
of_packet s j n x w =
    let a : Standing = standing_of s j n (destination_in x) in
    ap (λ (f : Fate). is_told (turn f)) (fate_of_transmission s a x w) ∙ none_sent (given_to s a x)

-- nor does a tick
no_tick : (f : Fate) (n : ℕ) (q : Qualification) (first : Option Listing) → TickedOnlyIf f n q first → is_told (turn f) ≡ false
no_tick fate.QualifiedCone n q first h = absurd h
no_tick fate.QualifiedRestricted n q first h = absurd h
no_tick fate.FirstAnswer n q first h = absurd h
no_tick fate.Symmetric n q first h = absurd h
no_tick fate.Changed n q first h = absurd h
no_tick _ n q first h = refl

-- nor its entry
of_tick : (s : Settings) (j : Journal) (n : ℕ) (w : Words) → is_told (turn_of (client_entry s j n ticked w)) ≡ false
unfolding client_tick
of_tick s j n w = no_tick (tick s n (qualification s j) w (due_at n (qualification s j) (first_peer j n))).fate n (qualification s j) (first_peer j n)
    (tick_is_warranted s n (qualification s j) w (first_peer j n))

-- THE ADVERTISEMENT

-- of a datagram only an advertisement brings one
advert_of : (f : Fate) (a : Seen) (h : Heard) → ReceivedOnlyIf f a h → is_told (turn f) ≡ true → IsAdvert f a h
advert_of fate.QualifiedCone a h only told = only
advert_of fate.QualifiedRestricted a h only told = only
advert_of fate.FirstAnswer a h only told = only
advert_of fate.Symmetric a h only told = only
advert_of fate.Changed a h only told = only
advert_of _ a h only told = absurd (false≢true told)

-- and nothing is sent for it
sends_none : (s : Settings) (a : Standing) (from : Ep) (x : List ℕ) (v : Value) (w : Words) (f : Fate) → is_told (turn f) ≡ true
    → (reception_step s a from x v w f).sends ≡ []
sends_none s a from x v w fate.QualifiedCone told = refl
sends_none s a from x v w fate.QualifiedRestricted told = refl
sends_none s a from x v w fate.FirstAnswer told = refl
sends_none s a from x v w fate.Symmetric told = refl
sends_none s a from x v w fate.Changed told = refl
sends_none s a from x v w _ told = absurd (false≢true told)

-- an advertisement from where the phase expects one; the phase, and whether it tells the origin that was told before,
-- give its fate. Nothing is sent
pub record IsAdvertised (s : Settings) (q : Qualification) (e : Entry) : Type 0 where
  pub from : Ep
  pub bytes : List ℕ
  pub came : e.input ≡ arrived from bytes
  pub source : from ≡ expected s q
  pub auth : is_some (value_in bytes).lead.auth ≡ true
  pub quiet : e.step.sends ≡ []
  pub phase : phase_line q.phase (is_same_origin (origin_in (value_in bytes).lead) (origin_before q q.phase)) ≡ e.step.fate

-- the entry of an advertisement
of_datagram : (s : Settings) (j : Journal) (n : ℕ) (from : Ep) (x : List ℕ) (w : Words)
    → is_told (turn_of (client_in s j n from x w)) ≡ true → IsAdvertised s (qualification s j) (client_in s j n from x w)
unfolding client_in reception standing_at
of_datagram s j n from x w told =
    let a : Standing = standing_of s j n (source_in x) in
    let f : Fate = reception_fate s a from x in
    let is : (reception s a from x w).fate ≡ f = fate_of_reception s a from x w in
    let told_f : is_told (turn f) ≡ true = ap (λ (g : Fate). is_told (turn g)) (sym is) ∙ told in
    let advert : IsAdvert f (seen s a from x) (heard s a.qualification from (value_in x)) = advert_of f (seen s a from x)
    (heard s a.qualification from (value_in x)) (reception_is_warranted s a from x) told_f in
    record {
      from = from;
      bytes = x;
      came = refl;
      source = same_ep-true from (expected s (qualification s j)) advert.from_expected;
      auth = has_auth (qualification s j).open_nonces (value_in x).lead.auth advert.open_nonce;
      quiet = sends_none s a from x (value_in x) w f told_f;
      phase = advert.phase ∙ sym is;
    }

-- only an advertisement brings such a turn
pub advertised : (s : Settings) (j : Journal) (n : ℕ) (input : Input) (w : Words) → is_told (turn_of (client_entry s j n input w)) ≡ true
    → IsAdvertised s (qualification s j) (client_entry s j n input w)
advertised s j n (arrived from x) w told = of_datagram s j n from x w told
advertised s j n (given x) w told = absurd (false≢true (sym (of_packet s j n x w) ∙ told))
advertised s j n ticked w told = absurd (false≢true (sym (of_tick s j n w) ∙ told))
advertised s j n (from_six x) w told = absurd (false≢true told)
