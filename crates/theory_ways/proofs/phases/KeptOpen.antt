-- Clients without the cone phase whose NATs were kept open, over whole histories: what their phases say is so, and their addresses
-- stay.
use Rattle.theory_ways.proofs.Words.{AddressStays, Bool, Cone, Entry, Full, Grown, IsActOf, IsFirst, IsKeptOpenAlong, Journal, List, Phase, Rests, Settings, Some, [], and_from, answered_now, answers, ap, are_honest_for, begins, client, cond, false, false≢true, first_cone, first_phase, first_restricted, first_rests, fresh_journal, has_sent, inl, inr, is_first, is_node, is_open_along, is_qualified, is_resting, is_same_origin, is_told, journal, let_out_of, new_journal, not, not_resting, open_of, or_left, or_right, origin_before, phase_next, qualification, qualified_rests, refl, rested, starts, starts_in, stays_at_start, subst, sym, told_qualifies, told_rests, true, turn, turn_of, untold_rests, unwrap_or, was_answered, with_entry, ℕ, ◌&&◌, ◌||◌, ◌∙◌, ◌∷◌, ◌≡◌}
use Rattle.theory_ways.proofs.phases.OneMore.{Walker, Asker, OneMore, was, after}
use Rattle.theory_ways.proofs.phases.Sound.{settings_of, standing_of, HasAsked, IsSoundAlong, IsSoundNow}
use Rattle.theory_ways.proofs.phases.Calm.{IsCalm, is_told_along}
use Rattle.theory_ways.proofs.phases.Concerns.{AsksCount, IsOpen, Concerns, own, others, concerns, own_node, asks_next, asks_on}
use Rattle.theory_ways.proofs.phases.SoundOn.{IsReady, sound_next, stays_next}
use Rattle.theory_ways.proofs.phases.Histories.{one_more_of, honest_before, open_parts, kept_open_before, calm_of, asks_at_start}

-- what holds of such a client
pub record IsFirm (v : Asker) : Type 0 where
  pub sound : IsSoundNow v
  pub asks : AsksCount v
  pub rests : is_qualified (standing_of v).phase ≡ true → HasAsked v
  pub answered : is_resting (standing_of v).phase ≡ true → was_answered v.past v.number ≡ true
  pub stays : AddressStays v.past v.number

-- ONE RECORD MORE

module _ (x : OneMore) (calm : IsCalm x) (never : x.row.cone_try ≡ false) (firm : IsFirm (was x)) where
  open x use {lab, before as H, full as r, number as n, row as c}

  abbrev s : Settings
  s = settings_of (was x)

  abbrev ph : Phase
  ph = (standing_of (was x)).phase

  no_cone : ph ≡ Cone → ⊥
  no_cone e =
      let is = subst (λ (p : Phase). IsSoundAlong (was x) p (standing_of (was x)).kept (standing_of (was x)).address) e firm.sound in
      false≢true (sym never ∙ is.0)

  -- the first answer came in the record, or had come
  abbrev AnsweredNow : Bool
  AnsweredNow = is_node n r.node && answers r.entry

  before : was_answered H n ≡ true → was_answered (r ∷ H) n ≡ true
  before answered = ap (λ (b : Bool). cond b false (AnsweredNow || was_answered H n)) calm.off ∙ or_right AnsweredNow (was_answered H n) answered

  of_turn : (e : Entry) → IsActOf lab H r n (client c) e → is_resting (qualification s (with_entry (journal n H) e)).phase ≡ true
      → was_answered (r ∷ H) n ≡ true
  of_turn e act rests = by (is_told (turn_of e)) refl where
    then_rests : is_resting (unwrap_or (begins (turn_of e)) ph) ≡ true
    then_rests = ap is_resting (sym (phase_next s (journal n H) e)) ∙ rests

    of_rests : Rests ph e.step.fate → was_answered (r ∷ H) n ≡ true
    of_rests (rested had) = before (firm.answered had)
    of_rests (answered_now now_is) =
        let here : AnsweredNow ≡ true = and_from (is_node n r.node) (answers r.entry) (own_node x calm e act) (ap answers act.entry ∙ now_is) in
        ap (λ (b : Bool). cond b false (AnsweredNow || was_answered H n)) calm.off ∙ or_left AnsweredNow (was_answered H n) here
    of_rests (not_resting none) = absurd (false≢true (sym none ∙ then_rests))

    by : (b : Bool) → is_told (turn_of e) ≡ b → was_answered (r ∷ H) n ≡ true
    by true h =
        let t = is_told_along x calm e act h in
        of_rests (subst (Rests ph) t.phase (told_rests ph (is_same_origin (Some t.dst) (origin_before (standing_of (was x)) ph)) no_cone))
    by false h = before (firm.answered (untold_rests (turn_of e) ph h then_rests))

  -- who rests now was answered
  still_answered : is_resting (standing_of (after x)).phase ≡ true → was_answered (r ∷ H) n ≡ true
  still_answered rests = by (concerns x calm) where
    by : Concerns x calm → was_answered (r ∷ H) n ≡ true
    by (own e act) = of_turn e act (subst (λ (j : Journal). is_resting (qualification s j).phase ≡ true) act.later rests)
    by (others same out goes) = before (firm.answered (subst (λ (j : Journal). is_resting (qualification s j).phase ≡ true) same rests))

  -- who is qualified now rested
  rested_before : is_qualified (standing_of (after x)).phase ≡ true → is_resting ph ≡ true
  rested_before q = by (concerns x calm) where
    turned : (e : Entry) → IsActOf lab H r n (client c) e → is_qualified (unwrap_or (begins (turn_of e)) ph) ≡ true
        → (b : Bool) → is_told (turn_of e) ≡ b → is_resting ph ≡ true
    turned e act then_is true h =
        let t = is_told_along x calm e act h in
        told_qualifies ph (is_same_origin (Some t.dst) (origin_before (standing_of (was x)) ph)) no_cone
        (ap (λ f. is_qualified (unwrap_or (begins (turn f)) ph)) t.phase ∙ then_is)
    turned e act then_is false h = untold_rests (turn_of e) ph h (qualified_rests (unwrap_or (begins (turn_of e)) ph) then_is)

    by : Concerns x calm → is_resting ph ≡ true
    by (own e act) = turned e act (ap is_qualified (sym (phase_next s (journal n H) e))
        ∙ subst (λ (j : Journal). is_qualified (qualification s j).phase ≡ true) act.later q) (is_told (turn_of e)) refl
    by (others same out goes) = qualified_rests ph (subst (λ (j : Journal). is_qualified (qualification s j).phase ≡ true) same q)

  pub firm_next : ((has_sent lab H n c || was_answered H n) && not (is_open_along lab H r.moment n c)) ≡ false → IsFirm (after x)
  firm_next shut = by (has_sent lab H n c) refl where
    open_if : (has_sent lab H n c || was_answered H n) ≡ true → IsOpen x calm
    open_if h = open_of (has_sent lab H n c || was_answered H n) (is_open_along lab H r.moment n c) h shut

    open_rest : is_resting ph ≡ true → IsOpen x calm
    open_rest rests = open_if (or_right (has_sent lab H n c) (was_answered H n) (firm.answered rests))

    ready_by : (b : Bool) → has_sent lab H n c ≡ b → IsReady x calm
    ready_by true e = record { asks = firm.asks; begun = inl (open_if (or_left (has_sent lab H n c) (was_answered H n) e)); rests = open_rest }
    ready_by false e = record { asks = firm.asks; begun = inr (e, λ tries. absurd (false≢true (sym never ∙ tries))); rests = open_rest }

    asks_by : (b : Bool) → has_sent lab H n c ≡ b → AsksCount (after x)
    asks_by true e = asks_next x calm firm.asks (inl (open_if (or_left (has_sent lab H n c) (was_answered H n) e))) (concerns x calm)
    asks_by false e = asks_next x calm firm.asks (inr e) (concerns x calm)

    by : (b : Bool) → has_sent lab H n c ≡ b → IsFirm (after x)
    by b e = record {
      sound = sound_next x calm (ready_by b e) firm.sound;
      asks = asks_by b e;
      rests = λ q. asks_on x calm firm.asks (open_rest (rested_before q));
      answered = still_answered;
      stays = stays_next x calm (ready_by b e) firm.sound firm.stays;
    }

-- A WHOLE HISTORY

-- a start
firm_at_start : (v : Asker) (m : ℕ) → v.row.cone_try ≡ false → journal v.number v.past ≡ new_journal m → ((k : ℕ) → let_out_of v.number k v.past ≡ [])
    → IsFirm v
firm_at_start v m never fresh none = record {
  sound = subst (λ (p : Phase). IsSoundAlong v p (standing_of v).kept (standing_of v).address)
      (sym (starts_in v.lab v.past v.number m v.row fresh)) (by (first_phase (settings_of v)) (is_first (settings_of v)));
  asks = asks_at_start v none;
  rests = λ q. absurd (false≢true (sym resting ∙ qualified_rests (standing_of v).phase q));
  answered = λ rests. absurd (false≢true (sym resting ∙ rests));
  stays = stays_at_start v.past v.number m fresh;
} where
  resting : is_resting (standing_of v).phase ≡ false
  resting = ap is_resting (starts_in v.lab v.past v.number m v.row fresh)
      ∙ first_rests v.row.cone_try (first_phase (settings_of v)) (is_first (settings_of v))

  by : (p : Phase) → IsFirst v.row.cone_try p → IsSoundAlong v p (standing_of v).kept (standing_of v).address
  by p (first_cone tries same) = absurd (false≢true (sym never ∙ tries))
  by p (first_restricted same) = subst (λ (z : Phase). IsSoundAlong v z (standing_of v).kept (standing_of v).address) (sym same) tt

module _ (the : Walker) (never : the.c.cone_try ≡ false) where
  open the use {lab, n, c, there}

  abbrev client_after : List Full → Asker
  client_after H = record { lab = lab; past = H; number = n; row = c }

  abbrev HasBegun : List Full → Bool
  HasBegun H = has_sent lab H n c || was_answered H n

  pub firm : (H : List Full) → Grown lab H → are_honest_for lab.topology c H ≡ true → IsKeptOpenAlong lab H n c → IsFirm (client_after H)
  firm [] g honest calm = firm_at_start (client_after []) 0 never refl (λ k. refl)
  firm (r ∷ H) g honest calm = by (starts n r) refl (firm H g.1 (honest_before lab n c H r honest)) where
    by : (b : Bool) → starts n r ≡ b → (IsKeptOpenAlong lab H n c → IsFirm (client_after H)) → IsFirm (client_after (r ∷ H))
    by true on ih = firm_at_start (client_after (r ∷ H)) r.moment never (fresh_journal H r n on) (λ k. rw on refl)
    by false off ih = firm_next (one_more_of lab n c there H r g) (calm_of lab n c H r there g off honest calm.lasts) never
        (ih (kept_open_before lab n c H r off calm)) (open_parts lab n c H r HasBegun off calm.server_open).0
