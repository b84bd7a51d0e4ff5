-- What brings a client the fate of an answer: an advertisement, in the phase that gives it.
use Rattle.theory_answers.proofs.Words.{Bool, Ep, Fate, Given, Heard, Input, IsAdvert, Journal, List, Listing, Option, Phase, Qualification, ReceivedOnlyIf, Seen, Settings, Standing, TickedOnlyIf, Words, [], ap, arrived, client_entry, client_in, client_out, client_tick, destination_in, destination_lines, due_at, false, false≢true, fate_of_reception, fate_of_transmission, first_peer, from_six, given, given_to, heard, host_lines, is_answer, phase_line, qualification, reception, reception_fate, reception_is_warranted, refl, seen, skip, source_in, standing_at, standing_of, sym, tick, tick_is_warranted, ticked, transmission_row, true, value_in, ℕ, ◌++◌, ◌∙◌, ◌≡◌}
use Rattle.teredo_node.specs.declared.fate.Fate.TheVariants as fate

-- THE OTHER INPUTS

-- a packet of the host brings none
none_sent : (a : Given) → is_answer (transmission_row a) ≡ false
none_sent a = skip (λ (f : Fate). is_answer f ≡ false) (host_lines a ++ destination_lines a) [] fate.Queued
    (refl, (refl, (refl, (refl, (refl, (refl, (refl, (refl, (refl, (refl, (refl, (refl, (refl, tt))))))))))))) refl

of_packet : (s : Settings) (j : Journal) (n : ℕ) (x : List ℕ) (w : Words) → is_answer (client_entry s j n (given x) w).step.fate ≡ false
unfolding client_out
of_packet s j n x w =
    let a : Standing = standing_of s j n (destination_in x) in
    ap (λ (f : Fate). is_answer f) (fate_of_transmission s a x w) ∙ none_sent (given_to s a x)

-- nor does a tick
no_tick : (f : Fate) (n : ℕ) (q : Qualification) (first : Option Listing) → TickedOnlyIf f n q first → is_answer f ≡ false
no_tick fate.QualifiedCone n q first h = absurd h
no_tick fate.QualifiedRestricted n q first h = absurd h
no_tick fate.FirstAnswer n q first h = absurd h
no_tick fate.Symmetric n q first h = absurd h
no_tick fate.Same n q first h = absurd h
no_tick fate.Changed n q first h = absurd h
no_tick _ n q first h = refl

of_tick : (s : Settings) (j : Journal) (n : ℕ) (w : Words) → is_answer (client_entry s j n ticked w).step.fate ≡ false
unfolding client_tick
of_tick s j n w = no_tick (tick s n (qualification s j) w (due_at n (qualification s j) (first_peer j n))).fate n (qualification s j) (first_peer j n)
    (tick_is_warranted s n (qualification s j) w (first_peer j n))

-- THE ADVERTISEMENT

-- of a datagram only an advertisement does
advert_of : (f : Fate) (a : Seen) (h : Heard) → ReceivedOnlyIf f a h → is_answer f ≡ true → IsAdvert f a h
advert_of fate.QualifiedCone a h only is = only
advert_of fate.QualifiedRestricted a h only is = only
advert_of fate.FirstAnswer a h only is = only
advert_of fate.Symmetric a h only is = only
advert_of fate.Same a h only is = only
advert_of fate.Changed a h only is = only
advert_of _ a h only is = absurd (false≢true is)

-- the phase gives its fate
pub record IsTaken (ph : Phase) (f : Fate) : Type 0 where
  pub same : Bool
  pub line : phase_line ph same ≡ f

of_datagram : (s : Settings) (j : Journal) (n : ℕ) (from : Ep) (x : List ℕ) (w : Words)
    → is_answer (client_in s j n from x w).step.fate ≡ true → IsTaken (qualification s j).phase (client_in s j n from x w).step.fate
unfolding client_in reception standing_at
of_datagram s j n from x w told =
    let a : Standing = standing_of s j n (source_in x) in
    let f : Fate = reception_fate s a from x in
    let is : (reception s a from x w).fate ≡ f = fate_of_reception s a from x w in
    let h : Heard = heard s a.qualification from (value_in x) in
    let advert : IsAdvert f (seen s a from x) h = advert_of f (seen s a from x) h (reception_is_warranted s a from x)
    (ap (λ (g : Fate). is_answer g) (sym is) ∙ told) in
    record { same = h.same_origin; line = advert.phase ∙ sym is }

-- nothing else brings one
pub taken : (s : Settings) (j : Journal) (n : ℕ) (input : Input) (w : Words) → is_answer (client_entry s j n input w).step.fate ≡ true
    → IsTaken (qualification s j).phase (client_entry s j n input w).step.fate
taken s j n (arrived from x) w told = of_datagram s j n from x w told
taken s j n (given x) w told = absurd (false≢true (sym (of_packet s j n x w) ∙ told))
taken s j n ticked w told = absurd (false≢true (sym (of_tick s j n w) ∙ told))
taken s j n (from_six x) w told = absurd (false≢true told)
