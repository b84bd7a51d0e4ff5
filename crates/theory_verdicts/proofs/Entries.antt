-- A client's phase, kept origin and address after one further entry.
use Rattle.theory_verdicts.proofs.Words.{Bool, Cone, Entry, Journal, None, Phase, Restricted, Settings, [], address_after, address_in, ap, begins, cond, false, first_phase, flags_word, in_phase, kept_after, kept_origin, leaves, origin_given, phase_of, qualification, refl, true, turn_of, unwrap_or, with_entry, ℕ, ◌∷◌, ◌≡◌}
use Rattle.theory_verdicts.proofs.Phases.{kept_then, address_then, is_early, is_resting}

-- an entry's turn begins a phase, or none
pub phase_next : (s : Settings) (j : Journal) (e : Entry) → (qualification s (with_entry j e)).phase ≡ unwrap_or (begins (turn_of e)) (qualification s j).phase
unfolding qualification
phase_next s j e = refl

-- the first answer's origin is kept, as long as its phase lasts
pub kept_next : (s : Settings) (j : Journal) (e : Entry)
    → (qualification s (with_entry j e)).kept ≡ kept_then (qualification s j).phase (turn_of e) (origin_given e.input) (qualification s j).kept
unfolding qualification
kept_next s j e = by (leaves (phase_of s j.entries) (turn_of e)) where
  by : (b : Bool) → kept_origin (e ∷ cond b [] (in_phase s j.entries)) ≡ kept_after (turn_of e) (origin_given e.input)
      (cond b None (kept_origin (in_phase s j.entries)))
  by true = refl
  by false = refl

-- an address is set, or stays, as long as its phase lasts
pub address_next : (s : Settings) (j : Journal) (e : Entry)
    → (qualification s (with_entry j e)).address ≡ address_then s (qualification s j).phase (turn_of e) (flags_word s e.words) (origin_given e.input)
    (qualification s j).address
unfolding qualification
address_next s j e = by (leaves (phase_of s j.entries) (turn_of e)) where
  by : (b : Bool) → address_in s (e ∷ cond b [] (in_phase s j.entries)) ≡ address_after s (turn_of e) (flags_word s e.words) (origin_given e.input)
      (cond b None (address_in s (in_phase s j.entries)))
  by true = refl
  by false = refl

-- at a start
pub phase_first : (s : Settings) (start : ℕ) → (qualification s (record { start = start; entries = [] })).phase ≡ first_phase s
unfolding qualification
phase_first s start = refl

-- which is Cone only where the client tries that
pub data IsFirst (tries : Bool) (phase : Phase) : Type 0 where
  first_cone : tries ≡ true → phase ≡ Cone → IsFirst tries phase
  first_restricted : phase ≡ Restricted → IsFirst tries phase

-- so is each first phase
pub is_first : (s : Settings) → IsFirst s.cone_try (first_phase s)
unfolding first_phase
is_first s = by s.cone_try refl where
  by : (b : Bool) → s.cone_try ≡ b → IsFirst s.cone_try (cond b Cone Restricted)
  by true e = first_cone e refl
  by false e = first_restricted refl

-- in which nothing came yet
pub first_is_early : (tries : Bool) (ph : Phase) → IsFirst tries ph → is_early ph ≡ true
first_is_early tries ph (first_cone t same) = ap is_early same
first_is_early tries ph (first_restricted same) = ap is_early same

-- and which rests on no NAT
pub first_rests : (tries : Bool) (ph : Phase) → IsFirst tries ph → is_resting ph ≡ false
first_rests tries ph (first_cone t same) = ap is_resting same
first_rests tries ph (first_restricted same) = ap is_resting same
