-- What a client's phase becomes by a turn, whatever its NATs are.
use Rattle.theory_verdicts.proofs.Words.{Bool, Cone, Ep, Fate, Ip6, None, OffLine, Option, Phase, Qualified, Restricted, Secondary, Settings, Some, Symmetric, Turn, address_after, ap, asks_cone, asks_restricted, asks_secondary, begins, cond, differs, ends, false, false≢true, inl, inr, is_answered, is_change, is_first_answer, is_qualified, is_same, kept_after, leaves, phase_line, qualifies, refl, refreshes, renews, says_nothing, sym, true, turn, unwrap_or, ℕ, ◌∙◌, ◌≡◌, ◌⊎◌}
use Rattle.teredo_node.specs.declared.fate.Fate.TheVariants as fate
use Rattle.qualify.specs.Turns.{is_changed}
use Rattle.theory_verdicts.proofs.Adverts.{is_told}

-- what is known after a turn
abbrev pub kept_then : Phase → Turn → Option Ep → Option Ep → Option Ep
kept_then p u o k = kept_after u o (cond (leaves p u) None k)

abbrev pub address_then : Settings → Phase → Turn → Option ℕ → Option Ep → Option Ip6 → Option Ip6
address_then s p u w o a = address_after s u w o (cond (leaves p u) None a)

-- TURNS THAT NO ADVERTISEMENT BRINGS

-- a phase goes on, or begins anew with nothing known
pub still_begins : (u : Turn) → is_told u ≡ false → (begins u ≡ None) ⊎ ((begins u ≡ Some Restricted) ⊎ (begins u ≡ Some OffLine))
still_begins asks_cone h = inl refl
still_begins asks_restricted h = inr (inl refl)
still_begins asks_secondary h = inl refl
still_begins ends h = inr (inr refl)
still_begins refreshes h = inl refl
still_begins (qualifies cone) h = absurd (false≢true (sym h))
still_begins is_answered h = absurd (false≢true (sym h))
still_begins differs h = absurd (false≢true (sym h))
still_begins is_same h = inl refl
still_begins is_changed h = absurd (false≢true (sym h))
still_begins renews h = inl refl
still_begins says_nothing h = inl refl

-- the origin stays
pub still_kept : (u : Turn) (o k : Option Ep) → is_told u ≡ false → kept_after u o k ≡ k
still_kept is_answered o k h = absurd (false≢true (sym h))
still_kept _ o k h = refl

-- and so does the address
pub still_address : (s : Settings) (u : Turn) (w : Option ℕ) (o : Option Ep) (a : Option Ip6) → is_told u ≡ false → address_after s u w o a ≡ a
still_address s (qualifies cone) w o a h = absurd (false≢true (sym h))
still_address s is_changed w o a h = absurd (false≢true (sym h))
still_address s _ w o a h = refl

-- which none of them changes
pub untold_same : (f : Fate) → is_told (turn f) ≡ false → is_change f ≡ false
untold_same fate.Changed h = absurd (false≢true (sym h))
untold_same _ h = refl

-- PHASES IN WHICH NOTHING CAME YET

abbrev pub is_early : Phase → Bool
is_early Cone = true
is_early Restricted = true
is_early OffLine = true
is_early _ = false

-- only an advertisement ends that
pub still_early : (u : Turn) (ph : Phase) → is_told u ≡ false → is_early ph ≡ true → is_early (unwrap_or (begins u) ph) ≡ true
still_early u ph h early = by (still_begins u h) where
  by : (begins u ≡ None) ⊎ ((begins u ≡ Some Restricted) ⊎ (begins u ≡ Some OffLine)) → is_early (unwrap_or (begins u) ph) ≡ true
  by (inl e) = ap (λ (o : Option Phase). is_early (unwrap_or o ph)) e ∙ early
  by (inr (inl e)) = ap (λ (o : Option Phase). is_early (unwrap_or o ph)) e
  by (inr (inr e)) = ap (λ (o : Option Phase). is_early (unwrap_or o ph)) e

-- PHASES THAT REST ON WHAT NATS KEEP

abbrev pub is_resting : Phase → Bool
is_resting Secondary = true
is_resting Qualified = true
is_resting _ = false

-- no early one does
pub rests_late : (ph : Phase) → is_resting ph ≡ true → is_early ph ≡ true → ⊥
rests_late Cone r e = false≢true r
rests_late Restricted r e = false≢true r
rests_late OffLine r e = false≢true r
rests_late Secondary r e = false≢true e
rests_late Qualified r e = false≢true e
rests_late Symmetric r e = false≢true e

-- a qualified one does
pub qualified_rests : (ph : Phase) → is_qualified ph ≡ true → is_resting ph ≡ true
qualified_rests Qualified h = refl
qualified_rests Cone h = absurd (false≢true h)
qualified_rests Restricted h = absurd (false≢true h)
qualified_rests Secondary h = refl
qualified_rests Symmetric h = absurd (false≢true h)
qualified_rests OffLine h = absurd (false≢true h)

-- such a phase goes on, or was begun by the first answer
pub data Rests (ph : Phase) (f : Fate) : Type 0 where
  rested : is_resting ph ≡ true → Rests ph f
  answered_now : is_first_answer (turn f) ≡ true → Rests ph f
  not_resting : is_resting (unwrap_or (begins (turn f)) ph) ≡ false → Rests ph f

-- so it is after an advertisement, but in phase Cone
pub told_rests : (ph : Phase) (same : Bool) → (ph ≡ Cone → ⊥) → Rests ph (phase_line ph same)
told_rests Cone same other = absurd (other refl)
told_rests Restricted same other = answered_now refl
told_rests Secondary same other = rested refl
told_rests Qualified same other = rested refl
told_rests Symmetric same other = not_resting refl
told_rests OffLine same other = not_resting refl

-- and one that an advertisement makes qualified rested before
pub told_qualifies : (ph : Phase) (same : Bool) → (ph ≡ Cone → ⊥) → is_qualified (unwrap_or (begins (turn (phase_line ph same))) ph) ≡ true
    → is_resting ph ≡ true
told_qualifies Cone same other h = absurd (other refl)
told_qualifies Restricted same other h = absurd (false≢true h)
told_qualifies Secondary same other h = refl
told_qualifies Qualified same other h = refl
told_qualifies Symmetric same other h = absurd (false≢true h)
told_qualifies OffLine same other h = absurd (false≢true h)

-- after any other entry it went on
pub untold_rests : (u : Turn) (ph : Phase) → is_told u ≡ false → is_resting (unwrap_or (begins u) ph) ≡ true → is_resting ph ≡ true
untold_rests u ph h rests = by (still_begins u h) where
  by : (begins u ≡ None) ⊎ ((begins u ≡ Some Restricted) ⊎ (begins u ≡ Some OffLine)) → is_resting ph ≡ true
  by (inl e) = ap (λ (o : Option Phase). is_resting (unwrap_or o ph)) (sym e) ∙ rests
  by (inr (inl e)) = absurd (false≢true (ap (λ (o : Option Phase). is_resting (unwrap_or o ph)) (sym e) ∙ rests))
  by (inr (inr e)) = absurd (false≢true (ap (λ (o : Option Phase). is_resting (unwrap_or o ph)) (sym e) ∙ rests))
